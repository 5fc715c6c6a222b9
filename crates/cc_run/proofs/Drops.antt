-- Laws on children that are abandoned, and on those that run on the host.
use Rattle.std.proofs.Common.{◌≡◌, inl, inr, ℕ, suc, ◌+◌, ◌<◌, List, [], ◌∷◌, ◌++◌, ◌==◌, length, take, drop, get_or, map, refl, sym, ◌∙◌, ap, subst, append_assoc, add-one, drop-cons, arith, Bool, true, false, if◌then◌else◌}
use Rattle.std.specs.Prelude.{Option, None, Some, Result, Ok, Err}
use Rattle.std.specs.List.{Contains}
use Rattle.std.proofs.lemmas.List.{take_more, map-append}
use Rattle.std.proofs.lemmas.Grind.{common_steps}
use Rattle.std.proofs.lemmas.List.Sums.{sum_by-cons}
use Rattle.cc_host.specs.Children.{InOrder, Live, live, live_from, live_after, running, without as without_live}
use Rattle.cc_host.specs.Part.{since}
use Rattle.cc_host.proofs.Parts.{since_append}
use Rattle.cc_host.specs.declared.event.Event.{Event}
use Rattle.cc_host.specs.declared.event.Event.TheVariants.{Abandoned, Missing, Fault}
use Rattle.cc_run.specs.Children.{nothing_kept, run_of, seat}
use Rattle.cc_run.specs.Life.{LivesOn}
use Rattle.cc_run.specs.Paid.{starts, starts_of}
use Rattle.cc_run.specs.Part.{Along}
use Rattle.cc_run.specs.Plan.{Plan, next_place}
use Rattle.cc_run.specs.Rules.{Rules}
use Rattle.cc_run.specs.Run.{Run, nothing, joined, run_after, run_from, without, ids, gone}
use Rattle.cc_run.specs.Seat.{SeatSeen}
use Rattle.cc_run.specs.State.{State, Works, Steps}
use Rattle.cc_run.specs.Whole.{RanAll}
use Rattle.cc_run.specs.declared.error.RunError.{RunError}
use Rattle.cc_run.specs.declared.mark.Mark.{Mark}
use Rattle.cc_run.specs.declared.planned.Turns.{Turns as TurnsSeen}
use Rattle.cc_run.specs.declared.running.Child.{Child}
use Rattle.cc_run.proofs.LifeLemmas.{lives_then, lives_others, lives_abandoned}
use Rattle.cc_run.proofs.PatienceLemmas.{by_kind, by_cause, by_end, live_append, ids_after, ids_polled, ids_unstarted, ran_part}
use Rattle.cc_run.proofs.KeptLemmas.{kept_run}
use Rattle.cc_run.proofs.Runs.{run_from-append}

ids_of : List Live → List ℕ
ids_of = map (λ c. c.id)

in_order_more : (xs ys : List ℕ) (y : ℕ) → InOrder xs ys → InOrder xs (y ∷ ys)
in_order_more [] ys y h = tt
in_order_more (x ∷ xs) ys y h = inr h

in_order_less : (id : ℕ) (cs : List (ℕ × ℕ)) (ys : List ℕ) → InOrder (ids cs) ys → InOrder (ids (without id cs)) ys
in_order_less id [] ys h = tt
in_order_less id (c ∷ cs) [] h = absurd h
in_order_less id (c ∷ cs) (y ∷ ys) (inl h) = at (c.0 == id) (in_order_less id cs ys h.1)
  where
    at : (b : Bool) → InOrder (ids (without id cs)) ys → InOrder (ids (if b then cs else c ∷ without id cs)) (y ∷ ys)
    at true k = in_order_more (ids cs) ys y h.1
    at false k = inl (h.0, k)
in_order_less id (c ∷ cs) (y ∷ ys) (inr h) = in_order_more (ids (without id (c ∷ cs))) ys y (in_order_less id (c ∷ cs) ys h)

-- the first of an id is taken out of both lists
in_order_without : (id : ℕ) (cs : List (ℕ × ℕ)) (ls : List Live) → InOrder (ids cs) (ids_of ls) → InOrder (ids (without id cs)) (ids_of (without_live id ls))
unfolding ids_of
in_order_without id [] ls h = tt
in_order_without id (c ∷ cs) [] h = absurd h
in_order_without id (c ∷ cs) (l ∷ ls) (inl h) = both (c.0 == id) (l.id == id) (ap (λ n. n == id) h.0) (in_order_without id cs ls h.1)
  where
    both : (b d : Bool) → b ≡ d → InOrder (ids (without id cs)) (ids_of (without_live id ls)) → InOrder (ids (if b then cs else c ∷ without id cs)) (ids_of (if d then ls else l ∷ without_live id ls))
    both true true e k = h.1
    both false false e k = inl (h.0, k)
    both true false e k = absurd (cc)
    both false true e k = absurd (cc)
in_order_without id (c ∷ cs) (l ∷ ls) (inr h) = one (l.id == id) (in_order_without id (c ∷ cs) ls h) (in_order_less id (c ∷ cs) (ids_of ls) h)
  where
    one : (d : Bool) → InOrder (ids (without id (c ∷ cs))) (ids_of (without_live id ls)) → InOrder (ids (without id (c ∷ cs))) (ids_of ls) → InOrder (ids (without id (c ∷ cs))) (ids_of (if d then ls else l ∷ without_live id ls))
    one true k less = less
    one false k less = in_order_more (ids (without id (c ∷ cs))) (ids_of (without_live id ls)) l.id k

in_order_push : (xs ys : List ℕ) (n : ℕ) → InOrder xs ys → InOrder (xs ++ n ∷ []) (ys ++ n ∷ [])
in_order_push [] [] n h = inl (refl, tt)
in_order_push [] (y ∷ ys) n h = inr (in_order_push [] ys n tt)
in_order_push (x ∷ xs) [] n h = absurd h
in_order_push (x ∷ xs) (y ∷ ys) n (inl h) = inl (h.0, in_order_push xs ys n h.1)
in_order_push (x ∷ xs) (y ∷ ys) n (inr h) = inr (in_order_push (x ∷ xs) ys n h)

in_order_end : (xs ys : List ℕ) (n : ℕ) → InOrder xs ys → InOrder xs (ys ++ n ∷ [])
in_order_end [] ys n h = tt
in_order_end (x ∷ xs) [] n h = absurd h
in_order_end (x ∷ xs) (y ∷ ys) n (inl h) = inl (h.0, in_order_end xs ys n h.1)
in_order_end (x ∷ xs) (y ∷ ys) n (inr h) = inr (in_order_end (x ∷ xs) ys n h)

in_order_start : (id : ℕ) (o : Option ℕ) (cs : List (ℕ × ℕ)) (ls : List Live) → InOrder (ids cs) (ids_of ls) → InOrder (ids (joined id o cs)) (ids_of (ls ++ record { id = id; polls = 0 } ∷ []))
unfolding ids_of
in_order_start id None cs ls h = subst (InOrder (ids cs)) (sym (map-append (λ c. c.id) ls (record { id = id; polls = 0 } ∷ []))) (in_order_end (ids cs) (ids_of ls) id h)
in_order_start id (Some p) cs ls h = subst (λ xs. InOrder xs (ids_of (ls ++ record { id = id; polls = 0 } ∷ []))) (sym (map-append (λ c. c.0) cs ((id, p) ∷ []))) (subst (InOrder (ids cs ++ id ∷ [])) (sym (map-append (λ c. c.id) ls (record { id = id; polls = 0 } ∷ []))) (in_order_push (ids cs) (ids_of ls) id h))

in_order_after : (plan : Plan) (r : Run) (ls : List Live) → InOrder (ids r.live) (ids_of ls) → (e : Event) → InOrder (ids (run_after plan r e).live) (ids_of (live_after ls e))
unfolding ids_of
in_order_after plan r ls h = by_kind (λ e. InOrder (ids (run_after plan r e).live) (ids_of (live_after ls e)))
    (λ id role cmd pipes held. in_order_start id (next_place plan r.marks) r.live ls h)
    (λ id s. in_order_without id r.live ls h)
    (λ id. in_order_without id r.live ls h)
    (λ n. subst (InOrder (ids r.live)) (sym (ids_polled n ls)) h)
    (λ e q. subst (λ l. InOrder (ids (run_after plan r e).live) (ids_of l)) (sym (q.lives ls)) (subst (λ s. InOrder (ids s.live) (ids_of ls)) (sym (q.run plan r)) h))

in_order_from : (plan : Plan) (r : Run) (ls : List Live) (part : List Event) → InOrder (ids r.live) (ids_of ls) → InOrder (ids (run_from plan r part).live) (ids_of (live_from ls part))
in_order_from plan r ls [] h = h
in_order_from plan r ls (e ∷ es) h = in_order_from plan (run_after plan r e) (live_after ls e) es (in_order_after plan r ls h e)

works_in_order : (rules : Rules) (total : Option ℕ) (a b : State) → Works rules total a b → InOrder (ids (run_of a.kept).live) (running a.log) → InOrder (ids (run_of b.kept).live) (running b.log)
unfolding ids_of
works_in_order rules total a b w h =
    let k : InOrder (ids (run_from rules.plan (run_of a.kept) w.part).live) (ids_of (live_from (live a.log) w.part)) = in_order_from rules.plan (run_of a.kept) (live a.log) w.part h in
    let l : live_from (live a.log) w.part ≡ live b.log = sym (live_append [] a.log w.part) ∙ ap live (sym w.adds) in
    let r : run_from rules.plan (run_of a.kept) w.part ≡ run_of b.kept = sym (kept_run rules.plan a.kept w.part) ∙ ap run_of w.keeps in
    subst (λ s. InOrder (ids s.live) (running b.log)) r (subst (λ ls. InOrder (ids (run_from rules.plan (run_of a.kept) w.part).live) (ids_of ls)) l k)

-- the children of a run run on the host
pub steps_in_order : {T : Type 0} (rules : Rules) (total : Option ℕ) (a b : State) (result : Result T RunError) → Steps rules total a result b → InOrder (ids (run_of a.kept).live) (running a.log) → InOrder (ids (run_of b.kept).live) (running b.log)
steps_in_order {T} rules total a b (Ok x) w h = works_in_order rules total a b w h
steps_in_order {T} rules total a b (Err e) s h =
    let quiet : live_from (live s.mid.log) s.tail ≡ live s.mid.log = by_cause (λ t. live_from (live s.mid.log) t ≡ live s.mid.log) refl (λ role cmd. refl) (λ call why. refl) rules.plan.cmds e s.tail s.cause in
    let same : running b.log ≡ running s.mid.log = ap running s.adds ∙ ap (map (λ c. c.id)) (live_append [] s.mid.log s.tail ∙ quiet) in
    subst (λ r. InOrder (ids r.live) (running b.log)) (sym s.run) (subst (InOrder (ids (run_of s.mid.kept).live)) (sym same) (works_in_order rules total a s.mid s.works h))

in_order_has : (x : ℕ) (xs ys : List ℕ) → InOrder (x ∷ xs) ys → Contains ys x
in_order_has x xs [] h = absurd h
in_order_has x xs (y ∷ ys) (inl h) = (0, omega arith, sym h.0)
in_order_has x xs (y ∷ ys) (inr h) = let k = in_order_has x xs ys h in (suc k.0, (let l : k.0 < length ys = k.1 in omega arith), k.2)

-- the first of those that run is abandoned
pub runs_abandoned : (old new : List Event) (c : ℕ × ℕ) (cs : List (ℕ × ℕ)) → new ≡ old ++ Abandoned c.0 ∷ [] → InOrder (ids (c ∷ cs)) (running old) → InOrder (ids cs) (running new)
unfolding ids_of
runs_abandoned old new c cs e h =
    let k : InOrder (ids (without c.0 (c ∷ cs))) (ids_of (without_live c.0 (live old))) = in_order_without c.0 (c ∷ cs) (live old) h in
    let l : without_live c.0 (live old) ≡ live new = sym (live_append [] old (Abandoned c.0 ∷ [])) ∙ ap live (sym e) in
    let one : without c.0 (c ∷ cs) ≡ cs = grind (arith, common_steps) in
    subst (λ x. InOrder (ids x) (running new)) one (subst (λ ls. InOrder (ids (without c.0 (c ∷ cs))) (ids_of ls)) l k)

drop_at : (items : List Child) (i : ℕ) (c : Child) → i < length items → c ≡ get_or items i c → drop i items ≡ c ∷ drop (i + 1) items
drop_at items i c lt at = rw (add-one, drop-cons items i c) (ap (λ x. x ∷ drop (suc i) items) (sym at))

gone_more : (items : List Child) (i : ℕ) (c : Child) → i < length items → c ≡ get_or items i c → gone (map seat (take (i + 1) items)) ≡ gone (map seat (take i items)) ++ Abandoned c.id ∷ []
gone_more items i c lt at =
    ap (λ l. gone (map seat l)) (take_more items i c lt ∙ ap (λ x. take i items ++ x ∷ []) (sym at))
    ∙ ap gone (map-append seat (take i items) (c ∷ []))
    ∙ map-append (λ c. Abandoned c.0) (map seat (take i items)) (seat c ∷ [])

-- the child at i runs on the host
pub has_child : (items : List Child) (i : ℕ) (c : Child) (log : List Event) → i < length items → c ≡ get_or items i c → InOrder (ids (map seat (drop i items))) (running log) → Contains (running log) c.id
has_child items i c log lt at h = in_order_has c.id (ids (map seat (drop (i + 1) items))) (running log) (subst (λ l. InOrder (ids (map seat l)) (running log)) (drop_at items i c lt at) h)

-- and is abandoned
pub drop_step : (items : List Child) (i : ℕ) (c : Child) (old mid new : List Event) → i < length items → c ≡ get_or items i c → mid ≡ old ++ gone (map seat (take i items)) → InOrder (ids (map seat (drop i items))) (running mid) → new ≡ mid ++ Abandoned c.id ∷ [] → (new ≡ old ++ gone (map seat (take (i + 1) items))) × InOrder (ids (map seat (drop (i + 1) items))) (running new)
drop_step items i c old mid new lt at e is f = (
  f ∙ ap (λ l. l ++ Abandoned c.id ∷ []) e ∙ append_assoc old (gone (map seat (take i items))) (Abandoned c.id ∷ []) ∙ ap (λ l. old ++ l) (sym (gone_more items i c lt at)),
  runs_abandoned mid new (seat c) (map seat (drop (i + 1) items)) f (subst (λ l. InOrder (ids (map seat l)) (running mid)) (drop_at items i c lt at) is),
)

extends : (old new part : List Event) → new ≡ old ++ part → new ≡ old ++ since old new
extends old new part e = e ∙ ap (λ p. old ++ p) (sym (since_append old part) ∙ ap (since old) (sym e))

-- those that run are abandoned, which takes each on
pub lives_gone : (mid new : List Event) (cs : List (ℕ × ℕ)) → new ≡ mid ++ gone cs → InOrder (ids cs) (running mid) → LivesOn mid new
lives_gone mid new [] e h = lives_others mid new [] e (λ _. tt)
lives_gone mid new (c ∷ cs) e h =
    let one = mid ++ Abandoned c.0 ∷ [] in
    let f : new ≡ one ++ gone cs = e ∙ sym (append_assoc mid (Abandoned c.0 ∷ []) (gone cs)) in
    lives_then mid one new (extends mid one (Abandoned c.0 ∷ []) refl) (extends one new (gone cs) f) (lives_abandoned mid one c.0 refl (in_order_has c.0 (ids cs) (running mid) h)) (lives_gone one new cs f (runs_abandoned mid one c cs refl h))

gone_starts : (cs : List (ℕ × ℕ)) → starts (gone cs) ≡ 0
gone_starts [] = refl
gone_starts (c ∷ cs) = let i : starts (gone cs) ≡ 0 = gone_starts cs in let k : starts (gone (c ∷ cs)) ≡ 0 + starts (gone cs) = sum_by-cons starts_of (Abandoned c.0) (gone cs) in omega arith

module _ (rules : Rules) (total : Option ℕ) (old : State) (general : Result (List Mark) RunError) (log : List Event) (patience : Option ℕ) (its : SeatSeen) (turned : TurnsSeen) (ran : RanAll rules total old general log patience its turned) (none : old.kept ≡ nothing_kept) where
  -- the run takes each child on, up to those that are abandoned
  pub ran_lives : LivesOn old.log log
  ran_lives =
      let adds : log ≡ (ran.done.log ++ ran.tail) ++ gone (run_of ran.done.kept).live = ran.adds ∙ sym (append_assoc ran.done.log ran.tail (gone (run_of ran.done.kept).live)) in
      let quiet : live_from (live ran.done.log) ran.tail ≡ live ran.done.log = by_end (λ t. live_from (live ran.done.log) t ≡ live ran.done.log) refl (λ role cmd. refl) (λ call why. refl) rules ran.done general ran.tail ran.ends in
      let same : running (ran.done.log ++ ran.tail) ≡ running ran.done.log = ap (map (λ c. c.id)) (live_append [] ran.done.log ran.tail ∙ quiet) in
      let runs : InOrder (ids (run_of ran.done.kept).live) (running ran.done.log) = works_in_order rules total old ran.done ran.works (subst (λ k. InOrder (ids (run_of k).live) (running old.log)) (sym none) tt) in
      let calm : LivesOn ran.done.log (ran.done.log ++ ran.tail) = by_end (λ t. LivesOn ran.done.log (ran.done.log ++ t)) (lives_others ran.done.log (ran.done.log ++ []) [] refl (λ _. tt)) (λ role cmd. lives_others ran.done.log (ran.done.log ++ Missing role cmd ∷ []) (Missing role cmd ∷ []) refl (λ _. (refl, tt))) (λ call why. lives_others ran.done.log (ran.done.log ++ Fault call why ∷ []) (Fault call why ∷ []) refl (λ _. (refl, tt))) rules ran.done general ran.tail ran.ends in
      lives_then old.log (ran.done.log ++ ran.tail) log
      (extends old.log (ran.done.log ++ ran.tail) (ran.works.part ++ ran.tail) (ap (λ l. l ++ ran.tail) ran.works.adds ∙ append_assoc old.log ran.works.part ran.tail))
      (extends (ran.done.log ++ ran.tail) log (gone (run_of ran.done.kept).live) adds)
      (lives_then old.log ran.done.log (ran.done.log ++ ran.tail) (extends old.log ran.done.log ran.works.part ran.works.adds) (extends ran.done.log (ran.done.log ++ ran.tail) ran.tail refl) ran.works.lives calm)
      (lives_gone (ran.done.log ++ ran.tail) log (run_of ran.done.kept).live adds (subst (InOrder (ids (run_of ran.done.kept).live)) (sym same) runs))
