-- Laws on the run of commands with prerequisites.
use Rattle.std.proofs.Common.{◌≡◌, inl, inr, ℕ, zero, suc, ◌<◌, List, [], ◌∷◌, ◌++◌, length, map, refl, sym, ◌∙◌, ap, subst, append_assoc, arith, Bool, true, false, not, ◌&&◌, ◌||◌, All, Option, None, Some, Result, Ok, Err, take, drop, ◌+◌, ◌*◌, ◌≤◌}
use Rattle.std.specs.Prelude.{◌==◌, slice_set, replicate, IfOk, IfSome}
use Rattle.std.specs.List.{list_all, Contains, slice_get}
use Rattle.std.proofs.lemmas.Bool.{cases_eq}
use Rattle.std.proofs.lemmas.Grind.{common_steps}
use Rattle.std.proofs.lemmas.List.{length-map, length-set, length-replicate, append-nil}
use Rattle.std.proofs.lemmas.List.Elements.{All-head, All-tail}
use Rattle.cc_host.specs.Part.{since}
use Rattle.cc_host.specs.Status.{is_success}
use Rattle.cc_host.specs.declared.event.Event.{Event}
use Rattle.cc_host.specs.declared.event.Event.TheVariants.{Started, Abandoned}
use Rattle.cc_host.specs.declared.event.Status.{Status}
use Rattle.cc_run.specs.Patience.{Unspent}
use Rattle.cc_jobs.specs.Seats.{Rose}
use Rattle.cc_run.proofs.PatienceLemmas.{ran_unspent}
use Rattle.cc_run.specs.Book.{Followed}
use Rattle.cc_run.specs.Children.{nothing_kept, run_of}
use Rattle.cc_run.specs.Follows.{Fitting, Follows}
use Rattle.cc_run.specs.Marks.{has_begun, has_ended, has_succeeded}
use Rattle.cc_run.specs.Part.{StartsNext, Along, missing, faults, turns as turns_in}
use Rattle.cc_run.specs.Plan.{Plan, next_place}
use Rattle.cc_run.specs.Printing.{IsPrinted}
use Rattle.cc_run.specs.Rules.{Rules, rules}
use Rattle.cc_run.specs.Run.{nothing, run_from}
use Rattle.cc_run.specs.Seat.{SeatSeen}
use Rattle.cc_run.specs.State.{State}
use Rattle.cc_run.specs.Whole.{RanAll}
use Rattle.cc_run.specs.declared.error.RunError.{RunError}
use Rattle.cc_run.specs.declared.error.RunError.TheVariants.{ToolNotFound, NoMemory as WantsMemory, Failed, StartFault, WaitFault, HostFault, JobFault, TurnsSpent}
use Rattle.cc_run.specs.declared.mark.Mark.{Mark}
use Rattle.cc_run.specs.declared.mark.Mark.TheVariants.{Began, Over}
use Rattle.cc_run.specs.declared.planned.Planned.{Planned}
use Rattle.cc_run.specs.declared.planned.Shows.{Shows}
use Rattle.cc_run.specs.declared.planned.Turns.{Turns as TurnsSeen}
use Rattle.cc_run.proofs.Ends.{ran_whole, ran_missing, ran_faults, ran_job_fault, ran_spent, ran_turns}
use Rattle.cc_run.proofs.Firsts.{next_some, next_none, may_begun, may_allows}
use Rattle.cc_run.proofs.Laws.{along_at, fresh_good, fresh_run, ran_follows, all_over}
use Rattle.cc_run.proofs.PrintingLemmas.{unchanged_printed}
use Rattle.cc_run.proofs.WorkLemmas.{works_none}
use Rattle.cc_host.proofs.Parts.{since_append}
use Rattle.cc_graph.specs.Ends.{ends_from, ends_of, went_well, is_skipped, end_at}
use Rattle.cc_graph.specs.Graph.{graph_of, needs_of, off, IsRefusal}
use Rattle.cc_graph.specs.Queue.{command, graph_plan}
use Rattle.cc_graph.specs.Run.{RanGraph, PrintsGraph, MeetsNeeds, GraphRun, EndsFairly}
use Rattle.cc_graph.specs.declared.ends.NodeEnd.{NodeEnd}
use Rattle.cc_graph.specs.declared.ends.NodeEnd.TheVariants.{Ended, Skipped}
use Rattle.cc_graph.specs.declared.error.GraphError.{GraphError}
use Rattle.cc_graph.specs.declared.error.GraphError.TheVariants.{OutOfRange, Cycle, Run as Stopped, NoMemory}
use Rattle.cc_graph.specs.declared.node.Node.{Node}
use Rattle.cc_graph.proofs.GraphLemmas.{graph_size}
use Rattle.cc_graph.proofs.QueueLaws.{all_within}

-- ---- errors

-- memory was wanted before the run began
pub ran_nothing : (rules : Rules) (total : Option ℕ) (old : State) → old.kept ≡ nothing_kept → old.seat.held ≡ 0 → RanAll rules total old (Err WantsMemory) old.log old.patience old.seat old.turns
ran_nothing rules total old none idle = record {
  done = old;
  works = works_none rules total old;
  holds = idle ∙ sym (ap (λ k. length k.children) none);
  tail = [];
  ends = (tt, refl);
  adds = sym (ap (λ k. old.log ++ ([] ++ map (λ c. Abandoned c.0) (run_of k).live)) none ∙ append-nil old.log);
  patient = refl;
  mid = old.seat;
  seat_by = record { same_held = refl; same_total = refl; counts = inl (refl, refl); later = omega arith; by_fault = tt };
  back = record { same_total = refl; same_taken = refl; same_load = refl; later = omega arith };
  empty = idle;
  made = refl;
}

-- ---- a start

plan_at : (nodes : List Node) (p : ℕ) (node : Node) → slice_get nodes p ≡ Some node → needs_of (graph_of nodes) p ≡ node.needs
plan_at [] p node e = cc
plan_at (n ∷ ns) zero node e = let k : n ≡ node = cc in ap (λ m. m.needs) k
plan_at (n ∷ ns) (suc p) node e = plan_at ns p node e

node_at : (nodes : List Node) (p : ℕ) (cmd : Planned) → slice_get (map command nodes) p ≡ Some cmd → (node : Node) × ((slice_get nodes p ≡ Some node) × (node.cmd ≡ cmd))
node_at [] p cmd e = cc
node_at (n ∷ ns) zero cmd e = (n, (refl, (let k : n.cmd ≡ cmd = cc in k)))
node_at (n ∷ ns) (suc p) cmd e = node_at ns p cmd e

-- a command is started only after all that it needs ended with 0
pub graph_order : (nodes : List Node) (shows : Shows) (t : Option ℕ) (part : List Event) → Along (rules (graph_plan nodes) shows) t nothing part → MeetsNeeds nodes (rules (graph_plan nodes) shows) part
graph_order nodes shows t part good before after id role cmd pipes held e =
    let s : StartsNext (rules (graph_plan nodes) shows) t (run_from (graph_plan nodes) nothing before) (record { role = role; cmd = cmd; pipes = pipes }) held = along_at (rules (graph_plan nodes) shows) t nothing before (Started id role cmd pipes held) after (subst (Along (rules (graph_plan nodes) shows) t nothing) e good) in
    let ok : list_all (has_succeeded (run_from (graph_plan nodes) nothing before).marks) (needs_of (graph_of nodes) s.place) ≡ true = may_allows (graph_plan nodes) (run_from (graph_plan nodes) nothing before).marks s.place (next_some (graph_plan nodes) (run_from (graph_plan nodes) nothing before).marks s.place s.next).holds in
    let n = node_at nodes s.place s.planned s.its in (
      s.place,
      (
        n.0,
        (
          n.1.0,
          ap (λ x. x.cmd) n.1.1 ∙ ap (λ a. a.cmd) s.asks,
          ap (list_all (has_succeeded (run_from (graph_plan nodes) nothing before).marks)) (sym (plan_at nodes s.place n.0 n.1.0)) ∙ ok,
        ),
      ),
    )

-- ---- ends

-- what succeeded had ended
ended_well : (marks : List Mark) (p : ℕ) → has_ended marks p ≡ false → has_succeeded marks p ≡ false
ended_well [] p h = refl
ended_well (Began q ∷ ms) p h = ended_well ms p h
ended_well (Over q status ∷ ms) p h = step (q == p) (is_success status) (has_ended ms p) (has_succeeded ms p) h (ended_well ms p)
  where
    step : (e s x y : Bool) → (e || x) ≡ false → (x ≡ false → y ≡ false) → ((e && s) || y) ≡ false
    step true s x y h i = absurd (cc)
    step false s x y h i = i h

get_set_same : (ends : List NodeEnd) (p : ℕ) (e : NodeEnd) → p < length ends → slice_get (slice_set ends p e) p ≡ Some e
get_set_same [] p e l = absurd (omega arith)
get_set_same (x ∷ xs) zero e l = refl
get_set_same (x ∷ xs) (suc p) e l = get_set_same xs p e (omega arith)

get_set_other : (ends : List NodeEnd) (p q : ℕ) (e : NodeEnd) → (p ≡ q → ⊥) → slice_get (slice_set ends p e) q ≡ slice_get ends q
get_set_other [] p q e d = refl
get_set_other (x ∷ xs) zero zero e d = absurd (d refl)
get_set_other (x ∷ xs) zero (suc q) e d = refl
get_set_other (x ∷ xs) (suc p) zero e d = refl
get_set_other (x ∷ xs) (suc p) (suc q) e d = get_set_other xs p q e (λ k. d (ap suc k))

pub ends_size : (ends : List NodeEnd) (marks : List Mark) → length (ends_from ends marks) ≡ length ends
ends_size ends [] = refl
ends_size ends (Began q ∷ ms) = ends_size ends ms
ends_size ends (Over q status ∷ ms) = ends_size (slice_set ends q (Ended status)) ms ∙ length-set ends q (Ended status)

-- what is told of a node that ended well
well_told : (plan : Plan) (ends : List NodeEnd) (before ms : List Mark) → ((k : ℕ) → k < length ends → went_well (slice_get ends k) ≡ has_succeeded before k) → Follows plan before ms → (k : ℕ) → k < length ends → went_well (slice_get (ends_from ends ms) k) ≡ has_succeeded (before ++ ms) k
well_told plan ends before [] h f k l = h k l ∙ ap (λ m. has_succeeded m k) (sym (append-nil before))
well_told plan ends before (Began q ∷ ms) h f k l =
    well_told plan ends (before ++ Began q ∷ []) ms (λ j b. h j b ∙ (let e : has_succeeded (before ++ Began q ∷ []) j ≡ has_succeeded before j = grind (arith, common_steps) in sym e)) f.1 k l ∙ ap (λ m. has_succeeded m k) (append_assoc before (Began q ∷ []) ms)
well_told plan ends before (Over q status ∷ ms) h f k l =
    let size : length (slice_set ends q (Ended status)) ≡ length ends = length-set ends q (Ended status) in
    well_told plan (slice_set ends q (Ended status)) (before ++ Over q status ∷ []) ms (λ j b. elim (cases_eq q j) [
      | inl e ↦
          let w : went_well (slice_get (slice_set ends q (Ended status)) j) ≡ is_success status = ap went_well (ap (slice_get (slice_set ends q (Ended status))) (sym e) ∙ get_set_same ends q (Ended status) (omega (arith, size, b, e))) in
          let n : has_succeeded before j ≡ false = ap (has_succeeded before) (sym e) ∙ ended_well before q f.0.1 in
          let m : has_succeeded (before ++ Over q status ∷ []) j ≡ (has_succeeded before j || is_success status) = grind (arith, common_steps) in
          w ∙ sym (m ∙ ap (λ v. v || is_success status) n)
      | inr d ↦
          let m : has_succeeded (before ++ Over q status ∷ []) j ≡ has_succeeded before j = grind (arith, common_steps) in
          ap went_well (get_set_other ends q j (Ended status) d) ∙ h j (omega (arith, size, b)) ∙ sym m
    ]) f.1 k (omega (arith, size, l)) ∙ ap (λ m. has_succeeded m k) (append_assoc before (Over q status ∷ []) ms)

-- what is told of a node that didn't end
skip_told : (ends : List NodeEnd) (before ms : List Mark) → ((k : ℕ) → k < length ends → is_skipped (slice_get ends k) ≡ not (has_ended before k)) → (k : ℕ) → k < length ends → is_skipped (slice_get (ends_from ends ms) k) ≡ not (has_ended (before ++ ms) k)
skip_told ends before [] h k l = h k l ∙ ap (λ m. not (has_ended m k)) (sym (append-nil before))
skip_told ends before (Began q ∷ ms) h k l =
    skip_told ends (before ++ Began q ∷ []) ms (λ j b. h j b ∙ (let e : has_ended (before ++ Began q ∷ []) j ≡ has_ended before j = grind (arith, common_steps) in ap not (sym e))) k l ∙ ap (λ m. not (has_ended m k)) (append_assoc before (Began q ∷ []) ms)
skip_told ends before (Over q status ∷ ms) h k l =
    let size : length (slice_set ends q (Ended status)) ≡ length ends = length-set ends q (Ended status) in
    skip_told (slice_set ends q (Ended status)) (before ++ Over q status ∷ []) ms (λ j b. elim (cases_eq q j) [
      | inl e ↦
          let w : is_skipped (slice_get (slice_set ends q (Ended status)) j) ≡ false = ap is_skipped (ap (slice_get (slice_set ends q (Ended status))) (sym e) ∙ get_set_same ends q (Ended status) (omega (arith, size, b, e))) in
          let m : has_ended (before ++ Over q status ∷ []) j ≡ true = grind (arith, common_steps) in
          w ∙ ap not (sym m)
      | inr d ↦
          let m : has_ended (before ++ Over q status ∷ []) j ≡ has_ended before j = grind (arith, common_steps) in
          ap is_skipped (get_set_other ends q j (Ended status) d) ∙ h j (omega (arith, size, b)) ∙ ap not (sym m)
    ]) k (omega (arith, size, l)) ∙ ap (λ m. not (has_ended m k)) (append_assoc before (Over q status ∷ []) ms)

there : (m : Mark) (ms : List Mark) (x : Mark) → Contains ms x → Contains (m ∷ ms) x
there m ms x c = (suc c.0, (let l : c.0 < length ms = c.1 in let g : suc c.0 < length (m ∷ ms) = omega arith in g), c.2)

here : (m : Mark) (ms : List Mark) → Contains (m ∷ ms) m
here m ms = (zero, (let g : zero < length (m ∷ ms) = omega arith in g), refl)

-- what never ended stays as it was
end_kept : (ends : List NodeEnd) (marks : List Mark) (p : ℕ) → has_ended marks p ≡ false → slice_get (ends_from ends marks) p ≡ slice_get ends p
end_kept ends [] p h = refl
end_kept ends (Began q ∷ ms) p h = end_kept ends ms p h
end_kept ends (Over q status ∷ ms) p h = elim (cases_eq q p) [
  | inl e ↦ absurd (let t : (q == p) ≡ true = grind (arith, common_steps) in cc)
  | inr d ↦ (let t : (q == p) ≡ false = grind (arith, common_steps) in let r : has_ended ms p ≡ false = grind (arith, common_steps) in end_kept (slice_set ends q (Ended status)) ms p r) ∙ get_set_other ends q p (Ended status) d
]

-- what ended has an end that was told
end_told : (ends : List NodeEnd) (marks : List Mark) (p : ℕ) → p < length ends → has_ended marks p ≡ true → (status : Status) × ((slice_get (ends_from ends marks) p ≡ Some (Ended status)) × Contains marks (Over p status))
end_told ends [] p l h = cc
end_told ends (Began q ∷ ms) p l h = let i = end_told ends ms p l h in (i.0, (i.1.0, there (Began q) ms (Over p i.0) i.1.1))
end_told ends (Over q status ∷ ms) p l h = step (has_ended ms p) refl (end_told (slice_set ends q (Ended status)) ms p (let z : length (slice_set ends q (Ended status)) ≡ length ends = length-set ends q (Ended status) in omega (arith, z, l)))
  where
    step : (b : Bool) → has_ended ms p ≡ b → (has_ended ms p ≡ true → (s : Status) × ((slice_get (ends_from (slice_set ends q (Ended status)) ms) p ≡ Some (Ended s)) × Contains ms (Over p s))) → (s : Status) × ((slice_get (ends_from (slice_set ends q (Ended status)) ms) p ≡ Some (Ended s)) × Contains (Over q status ∷ ms) (Over p s))
    step true e rec = let i = rec e in (i.0, (i.1.0, there (Over q status) ms (Over p i.0) i.1.1))
    step false e rec =
        let t : (q == p) ≡ true = grind (arith, common_steps) in
        let k : q ≡ p = grind (arith, common_steps) in (
          status,
          (
            end_kept (slice_set ends q (Ended status)) ms p e ∙ ap (slice_get (slice_set ends q (Ended status))) (sym k) ∙ get_set_same ends q (Ended status) (omega (arith, l, k)),
            subst (λ j. Contains (Over q status ∷ ms) (Over j status)) k (here (Over q status) ms),
          ),
        )

skipped_at : (n p : ℕ) → p < n → slice_get (replicate n Skipped) p ≡ Some Skipped
skipped_at zero p l = absurd (omega arith)
skipped_at (suc n) zero l = refl
skipped_at (suc n) (suc p) l = skipped_at n p (omega arith)

-- ---- needs

more_succeeded : (marks : List Mark) (m : Mark) (p : ℕ) → has_succeeded marks p ≡ true → has_succeeded (marks ++ m ∷ []) p ≡ true
more_succeeded marks m p h = grind (arith, common_steps)

all_more : (marks : List Mark) (m : Mark) (ks : List ℕ) → list_all (has_succeeded marks) ks ≡ true → list_all (has_succeeded (marks ++ m ∷ [])) ks ≡ true
all_more marks m [] h = refl
all_more marks m (k ∷ ks) h =
    let both : (has_succeeded marks k ≡ true) × (list_all (has_succeeded marks) ks ≡ true) = and_both (has_succeeded marks k) (list_all (has_succeeded marks) ks) h in
    both_and (has_succeeded (marks ++ m ∷ []) k) (list_all (has_succeeded (marks ++ m ∷ [])) ks) (more_succeeded marks m k both.0) (all_more marks m ks both.1)
  where
    and_both : (a b : Bool) → (a && b) ≡ true → (a ≡ true) × (b ≡ true)
    and_both true true h = (refl, refl)
    and_both true false h = cc
    and_both false b h = cc

    both_and : (a b : Bool) → a ≡ true → b ≡ true → (a && b) ≡ true
    both_and a b x y = cc

-- of what began, all needs ended with 0
needs_met : (nodes : List Node) (before ms : List Mark) → ((p : ℕ) → has_begun before p ≡ true → list_all (has_succeeded before) (needs_of (graph_of nodes) p) ≡ true) → Follows (graph_plan nodes) before ms → (p : ℕ) → has_begun (before ++ ms) p ≡ true → list_all (has_succeeded (before ++ ms)) (needs_of (graph_of nodes) p) ≡ true
needs_met nodes before [] h f p b =
    let n : before ++ [] ≡ before = grind (arith, common_steps) in
    subst (λ l. list_all (has_succeeded l) (needs_of (graph_of nodes) p) ≡ true) (sym n) (h p (subst (λ l. has_begun l p ≡ true) n b))
needs_met nodes before (m ∷ ms) h f p b =
    let e : (before ++ m ∷ []) ++ ms ≡ before ++ m ∷ ms = append_assoc before (m ∷ []) ms in
    subst (λ l. list_all (has_succeeded l) (needs_of (graph_of nodes) p) ≡ true) e (needs_met nodes (before ++ m ∷ []) ms (λ q c. all_more before m (needs_of (graph_of nodes) q) (step m f.0 q c)) f.1 p (subst (λ l. has_begun l p ≡ true) (sym e) b))
  where
    same : (q k : ℕ) → (q == k) ≡ true → q ≡ k
    same q k e = grind (arith, common_steps)

    step : (m : Mark) → Fitting (graph_plan nodes) before m → (q : ℕ) → has_begun (before ++ m ∷ []) q ≡ true → list_all (has_succeeded before) (needs_of (graph_of nodes) q) ≡ true
    step (Over k status) fit q c = h q (let g : has_begun before q ≡ true = grind (arith, common_steps) in g)
    step (Began k) fit q c = cases (has_begun before q) refl
      where
        cases : (v : Bool) → has_begun before q ≡ v → list_all (has_succeeded before) (needs_of (graph_of nodes) q) ≡ true
        cases true g = h q g
        cases false g =
            let n : (k == q) ≡ true = grind (arith, common_steps) in
            let e : k ≡ q = same k q n in
            subst (λ x. list_all (has_succeeded before) (needs_of (graph_of nodes) x) ≡ true) e (may_allows (graph_plan nodes) before k fit.holds)

all_same : (f g : ℕ → Bool) (n : ℕ) (ks : List ℕ) → ((p : ℕ) → p < n → f p ≡ g p) → All (λ k. k < n) ks → list_all f ks ≡ list_all g ks
all_same f g n [] same h = refl
all_same f g n (k ∷ ks) same h =
    let a : f k ≡ g k = same k (All-head (λ j. j < n) k ks h) in
    let b : list_all f ks ≡ list_all g ks = all_same f g n ks same (All-tail (λ j. j < n) k ks h) in
    cc

-- ---- a whole run

both_same : (b h : Bool) → (not b && h) ≡ false → (b ≡ true → h ≡ true) → b ≡ h
both_same true h n y = sym (y refl)
both_same false true n y = cc
both_same false false n y = refl

same_tests : (b e : Bool) → (b ≡ true → e ≡ true) → (b ≡ false → e ≡ false) → e ≡ b
same_tests true e y n = y refl
same_tests false e y n = n refl

pub graph_ran : (nodes : List Node) (shows : Shows) (t : Option ℕ) (old : State) (marks : List Mark) (ends : List NodeEnd) (log : List Event) (patience : Option ℕ) (seat : SeatSeen) (turns : TurnsSeen) → off (graph_of nodes) ≡ None → old.kept ≡ nothing_kept → RanAll (rules (graph_plan nodes) shows) t old (Ok marks) log patience seat turns → ends ≡ ends_of (length nodes) marks → GraphRun nodes (rules (graph_plan nodes) shows) t (since old.log log) ends
graph_ran nodes shows t old marks ends log patience seat turns closed fresh ran are = record {
  good = good;
  marks = marks;
  follows = f;
  are = ap (λ p. (run_from (graph_plan nodes) nothing p).marks) whole ∙ ap (λ r. r.marks) (fresh_run R t old ran.done ran.works fresh) ∙ sym ran.ends.1;
  met = graph_order nodes shows t (since old.log log) good;
  size = ap length are ∙ ends_size (replicate (length nodes) Skipped) marks ∙ size;
  told = λ p l b.
      let x = end_told (replicate (length nodes) Skipped) marks p (omega (arith, size, l)) (over p ∙ b) in
      (x.0, (ap (λ es. slice_get es p) are ∙ x.1.0, x.1.1));
  skips = skips;
  behind = λ p l.
      skips p l ∙ ap not (begun_is p l ∙ all_same (has_succeeded marks) (λ k. went_well (end_at ends k)) (length nodes) (needs_of (graph_of nodes) p) (λ k b. sym (well k b)) (within p));
}
  where
    R : Rules
    R = rules (graph_plan nodes) shows

    whole : since old.log log ≡ ran.works.part
    whole = ran_whole R t old (Ok marks) log patience seat turns ran marks refl

    good : Along R t nothing (since old.log log)
    good = subst (Along R t nothing) (sym whole) (fresh_good R t old ran.done ran.works fresh)

    x : Followed (graph_plan nodes) nothing (run_of ran.done.kept)
    x = ran_follows R t old ran.done ran.works fresh

    f : Follows (graph_plan nodes) [] marks
    f = subst (Follows (graph_plan nodes) []) (sym x.grew ∙ sym ran.ends.1) x.follows

    size : length (replicate (length nodes) Skipped) ≡ length nodes
    size = length-replicate (length nodes) Skipped

    over : (p : ℕ) → has_ended marks p ≡ has_begun marks p
    over p = ap (λ m. has_ended m p) ran.ends.1 ∙ same_tests (has_begun ran.done.kept.marks p) (has_ended ran.done.kept.marks p) (all_over (run_of ran.done.kept) x.tracks ran.ends.0.0 p) (x.tracks.over p) ∙ ap (λ m. has_begun m p) (sym ran.ends.1)

    skips : (p : ℕ) → p < length nodes → is_skipped (end_at ends p) ≡ not (has_begun marks p)
    skips p l = ap (λ es. is_skipped (slice_get es p)) are ∙ skip_told (replicate (length nodes) Skipped) [] marks (λ k b. ap is_skipped (skipped_at (length nodes) k (omega (arith, size, b)))) p (omega (arith, size, l)) ∙ ap not (over p)

    well : (k : ℕ) → k < length nodes → went_well (end_at ends k) ≡ has_succeeded marks k
    well k l = ap (λ es. went_well (slice_get es k)) are ∙ well_told (graph_plan nodes) (replicate (length nodes) Skipped) [] marks (λ j b. ap went_well (skipped_at (length nodes) j (omega (arith, size, b)))) f k (omega (arith, size, l))

    within : (p : ℕ) → All (λ k. k < length nodes) (needs_of (graph_of nodes) p)
    within p = subst (λ n. All (λ k. k < n) (needs_of (graph_of nodes) p)) (graph_size nodes) (all_within (graph_of nodes) p closed)

    begun_is : (p : ℕ) → p < length nodes → has_begun marks p ≡ list_all (has_succeeded marks) (needs_of (graph_of nodes) p)
    begun_is p l =
        let n : next_place (graph_plan nodes) marks ≡ None = subst (λ m. next_place (graph_plan nodes) m ≡ None) (sym ran.ends.1) ran.ends.0.1 in
        let k : p < length (map command nodes) = subst (λ c. p < c) (sym (length-map nodes command)) l in
        both_same (has_begun marks p) (list_all (has_succeeded marks) (needs_of (graph_of nodes) p)) (next_none (graph_plan nodes) marks n p k) (needs_met nodes [] marks (λ q c. absurd (cc)) f p)

-- ---- what is refused

nothing_since : (log : List Event) → since log log ≡ []
nothing_since log = ap (since log) (sym (append-nil log)) ∙ since_append log []

pub nothing_printed : (rules : Rules) (log : List Event) → IsPrinted {T = List NodeEnd} rules nothing_kept (Err WantsMemory) (since log log)
nothing_printed rules log = unchanged_printed {T = List NodeEnd} rules nothing_kept log log (Err WantsMemory) refl (0, refl)

-- the check refuses, and nothing is done
pub refused_ran : (nodes : List Node) (rules : Rules) (total : Option ℕ) (old : State) (e : GraphError) → IsRefusal (graph_of nodes) e → old.kept ≡ nothing_kept → old.seat.held ≡ 0 → RanGraph (length nodes) rules total old (Err e) old.log old.patience old.seat old.turns
refused_ran nodes rules total old (OutOfRange node need) h none idle = record { same_log = refl; same_patience = refl; same_seat = refl; same_turns = refl }
refused_ran nodes rules total old (Cycle cycle) h none idle = record { same_log = refl; same_patience = refl; same_seat = refl; same_turns = refl }
refused_ran nodes rules total old (Stopped e) h none idle = absurd h
refused_ran nodes rules total old NoMemory h none idle = ran_nothing rules total old none idle

pub refused_lines : (nodes : List Node) (rules : Rules) (log : List Event) (e : GraphError) → IsRefusal (graph_of nodes) e → PrintsGraph rules (Err e) (since log log)
refused_lines nodes rules log (OutOfRange node need) h = nothing_since log
refused_lines nodes rules log (Cycle cycle) h = nothing_since log
refused_lines nodes rules log (Stopped e) h = absurd h
refused_lines nodes rules log NoMemory h = nothing_printed rules log

-- ---- an answer

pub graph_told : (nodes : List Node) (shows : Shows) (t : Option ℕ) (old : State) (result : Result (List NodeEnd) GraphError) (log : List Event) (patience : Option ℕ) (seat : SeatSeen) (turns : TurnsSeen) → off (graph_of nodes) ≡ None → old.kept ≡ nothing_kept → RanGraph (length nodes) (rules (graph_plan nodes) shows) t old result log patience seat turns → IfOk result (GraphRun nodes (rules (graph_plan nodes) shows) t (since old.log log))
graph_told nodes shows t old (Ok ends) log patience seat turns closed fresh w = graph_ran nodes shows t old w.marks ends log patience seat turns closed fresh w.ran w.ends_are
graph_told nodes shows t old (Err e) log patience seat turns closed fresh w = tt

-- ---- every answer

module _ (nodes : List Node) (shows : Shows) (t : Option ℕ) (old : State) (fresh : old.kept ≡ nothing_kept) where
  -- whatever the answer, a command is started only after all that it needs ended with 0
  pub graph_starts : (result : Result (List Mark) RunError) (log : List Event) (patience : Option ℕ) (seat : SeatSeen) (turns : TurnsSeen) (ran : RanAll (rules (graph_plan nodes) shows) t old result log patience seat turns) → MeetsNeeds nodes (rules (graph_plan nodes) shows) ran.works.part
  graph_starts result log patience seat turns ran = graph_order nodes shows t ran.works.part (fresh_good (rules (graph_plan nodes) shows) t old ran.done ran.works fresh)

  -- so is one looked for that is missing, and it wasn't started
  pub graph_missing : (place : ℕ) (log : List Event) (patience : Option ℕ) (seat : SeatSeen) (turns : TurnsSeen) (ran : RanAll (rules (graph_plan nodes) shows) t old (Err (ToolNotFound place)) log patience seat turns) → (list_all (has_succeeded ran.done.kept.marks) (needs_of (graph_of nodes) place) ≡ true) × (has_begun ran.done.kept.marks place ≡ false)
  graph_missing place log patience seat turns ran =
      let l = (next_some (graph_plan nodes) ran.done.kept.marks place ran.ends.0).holds in
      (may_allows (graph_plan nodes) ran.done.kept.marks place l, may_begun (graph_plan nodes) ran.done.kept.marks place l)

  -- no node is started twice
  pub graph_once : (result : Result (List Mark) RunError) (log : List Event) (patience : Option ℕ) (seat : SeatSeen) (turns : TurnsSeen) (ran : RanAll (rules (graph_plan nodes) shows) t old result log patience seat turns) → Followed (graph_plan nodes) nothing (run_of ran.done.kept)
  graph_once result log patience seat turns ran = ran_follows (rules (graph_plan nodes) shows) t old ran.done ran.works fresh

one_there : (cmds : List Planned) (place : ℕ) (p : Planned) → slice_get cmds place ≡ Some p → take 1 (drop place cmds) ≡ p ∷ []
one_there [] place p e = cc
one_there (c ∷ cs) zero p e = let k : c ≡ p = cc in ap (λ x. x ∷ []) k
one_there (c ∷ cs) (suc place) p e = one_there cs place p e

-- where no command is missing, no call fails and the pool doesn't, a run goes well, spends its turns, or wants memory
pub graph_fair : (rules : Rules) (t : Option ℕ) (old : State) (result : Result (List Mark) RunError) (log : List Event) (patience : Option ℕ) (seat : SeatSeen) (turns : TurnsSeen) → RanAll rules t old result log patience seat turns → missing (since old.log log) ≡ [] → faults (since old.log log) ≡ [] → (Rose old.seat.faults seat.faults → ⊥) → EndsFairly result
graph_fair rules t old (Ok marks) log patience seat turns ran m f j = tt
graph_fair rules t old (Err TurnsSpent) log patience seat turns ran m f j = tt
graph_fair rules t old (Err WantsMemory) log patience seat turns ran m f j = tt
graph_fair rules t old (Err (Failed place status)) log patience seat turns ran m f j = absurd ran.ends.0
graph_fair rules t old (Err JobFault) log patience seat turns ran m f j = absurd (j (ran_job_fault rules t old (Err JobFault) log patience seat turns ran refl))
graph_fair rules t old (Err (ToolNotFound place)) log patience seat turns ran m f j =
    let p = ran.ends.1 in
    let e : map (λ c. (c.role, c.cmd)) (take 1 (drop place rules.plan.cmds)) ≡ [] = sym (ran_missing rules t old (Err (ToolNotFound place)) log patience seat turns ran) ∙ m in
    absurd (let k : (p.0.role, p.0.cmd) ∷ [] ≡ [] = sym (ap (map (λ c. (c.role, c.cmd))) (one_there rules.plan.cmds place p.0 p.1.0)) ∙ e in cc)
graph_fair rules t old (Err (StartFault place)) log patience seat turns ran m f j = absurd (let k = sym (ran_faults rules t old (Err (StartFault place)) log patience seat turns ran) ∙ f in cc)
graph_fair rules t old (Err WaitFault) log patience seat turns ran m f j = absurd (let k = sym (ran_faults rules t old (Err WaitFault) log patience seat turns ran) ∙ f in cc)
graph_fair rules t old (Err (HostFault call why)) log patience seat turns ran m f j = absurd (let k = sym (ran_faults rules t old (Err (HostFault call why)) log patience seat turns ran) ∙ f in cc)

-- as many turns as the patience for each node are enough, where one caller owns the pool
pub graph_enough : (nodes : List Node) (shows : Shows) (t most : ℕ) (old : State) (log : List Event) (patience : Option ℕ) (seat : SeatSeen) (turns : TurnsSeen) → old.kept ≡ nothing_kept → old.patience ≡ Some most → 1 ≤ most → most * length nodes ≤ old.turns.left → RanAll (rules (graph_plan nodes) shows) (Some t) old (Err TurnsSpent) log patience seat turns → ⊥
graph_enough nodes shows t most old log patience seat turns fresh tells least many ran =
    let unspent : Unspent old.patience (length (map command nodes)) (since old.log log) = ran_unspent (rules (graph_plan nodes) shows) (Some t) old (Err TurnsSpent) log patience seat turns ran fresh (subst (λ o. IfSome o (λ m. 1 ≤ m)) (sym tells) least) refl in
    let fewer : turns_in (since old.log log) < most * length (map command nodes) = subst (λ o. Unspent o (length (map command nodes)) (since old.log log)) tells unspent in
    let size : most * length (map command nodes) ≡ most * length nodes = ap (λ n. most * n) (length-map nodes command) in
    let none : turns.left ≡ 0 = ran_spent (rules (graph_plan nodes) shows) (Some t) old (Err TurnsSpent) log patience seat turns ran refl in
    let made : turns.left + turns_in (since old.log log) ≡ old.turns.left = (ran_turns (rules (graph_plan nodes) shows) (Some t) old (Err TurnsSpent) log patience seat turns ran).left in
    omega (arith, fewer, size, none, made, many)
