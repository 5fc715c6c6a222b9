-- Laws on what happens to a run: one thing after another, a start, a turn, a refusal.
use Rattle.std.proofs.Common.{◌≡◌, ◌⊎◌, inl, inr, ℕ, zero, suc, ◌+◌, ◌^◌, ◌<◌, ◌≤◌, List, [], ◌∷◌, ◌++◌, length, take, map, get_or, refl, sym, ◌∙◌, ap, subst, append_assoc, arith, Bool, true, false, ◌&&◌}
use Rattle.std.specs.Prelude.{Option, None, Some, IfSome, IfErr, OnOk, Result, Ok, Err, if◌then◌else◌, ◌↔◌}
use Rattle.std.specs.List.{list_all, flat_map, slice_get}
use Rattle.std.proofs.lemmas.List.{append-nil, length-map, map-append, take_more}
use Rattle.std.proofs.lemmas.List.Sums.{sum_by-append, sum_by-cons}
use Rattle.std.proofs.lemmas.Bool.{and_parts, and_from}
use Rattle.std.proofs.lemmas.Grind.{common_steps}
use Rattle.std.proofs.lemmas.Option.{slice_get-get_or}
use Rattle.cc_jobs.specs.Seats.{Rose, UpBy, stands, IsBounded}
use Rattle.cc_host.specs.Children.{IsNews, Waits}
use Rattle.cc_host.specs.Part.{since}
use Rattle.cc_host.proofs.Parts.{since_append}
use Rattle.cc_host.specs.Command.{CommandSeen}
use Rattle.cc_host.specs.Event.{reported, heard, unread, ended}
use Rattle.cc_host.specs.declared.event.Event.{Event}
use Rattle.cc_host.specs.declared.event.Event.TheVariants.{Started, Missing, Turn, Fault, Heard, Unread, Ended, Printed, Said}
use Rattle.cc_host.specs.declared.event.HostCall.TheVariants.{Start as Starting, Turn as Turning}
use Rattle.cc_host.specs.declared.event.News.{News}
use Rattle.cc_host.specs.declared.event.Pipes.{Pipes}
use Rattle.cc_host.specs.declared.event.Role.{Role}
use Rattle.cc_host.specs.declared.event.Status.{Status}
use Rattle.cc_host.specs.declared.event.Why.{Why}
use Rattle.cc_run.specs.Children.{Kept, run_of, seat, nothing_kept}
use Rattle.cc_run.specs.Hearing.{children_from, owed_from, reports}
use Rattle.cc_run.specs.Keeping.{TurnsMade, IsOneFewer}
use Rattle.cc_run.specs.Life.{LivesOn, IsNewcomer}
use Rattle.cc_run.specs.Messages.{before}
use Rattle.cc_run.specs.Outcome.{IsCause, IsSettled, IsUnturned, Reason, IsNotice}
use Rattle.cc_run.specs.Own.{is_run_line, is_run_notice}
use Rattle.cc_run.specs.Paid.{starts, starts_of, loads, held_of}
use Rattle.cc_run.specs.Part.{Good, Along, Busy, StartsNext, turns, turns_of}
use Rattle.cc_run.specs.Patience.{Lasts}
use Rattle.cc_run.specs.Plan.{Plan, IsNext, next_place, unbegun}
use Rattle.cc_run.specs.Planned.{Asked, asked_by, pipes_of}
use Rattle.cc_run.specs.Printing.{kept_after, kept_from, with_child, IsPrinted}
use Rattle.cc_run.specs.Prints.{prints, print_fault, ArePrinted, IsPrintError}
use Rattle.cc_run.specs.Rules.{Rules}
use Rattle.cc_run.specs.Run.{Run, run_after, run_from, ids}
use Rattle.cc_run.specs.Seat.{SeatSeen, Pays, Returned, Spent, IsStartError, FaultsBy, MissesBy}
use Rattle.cc_run.specs.Started.{IsStart, IsFilled, StartsOne}
use Rattle.cc_run.specs.State.{State, Works, Stops, Steps}
use Rattle.cc_run.specs.declared.error.RunError.{RunError}
use Rattle.cc_run.specs.declared.error.RunError.TheVariants.{ToolNotFound, Failed, StartFault, WaitFault, HostFault, JobFault, TurnsSpent, NoMemory}
use Rattle.cc_run.specs.declared.error.Step.{Step}
use Rattle.cc_run.specs.declared.error.Step.TheVariants.{Ready, Pending}
use Rattle.cc_run.specs.declared.mark.Mark.{Mark}
use Rattle.cc_run.specs.declared.mark.Mark.TheVariants.{Began}
use Rattle.cc_run.specs.declared.planned.Planned.{Planned}
use Rattle.cc_run.specs.declared.planned.Shows.{Shows}
use Rattle.cc_run.specs.declared.planned.Turns.{Turns as TurnsSeen}
use Rattle.cc_run.specs.declared.running.Child.{Child}
use Rattle.cc_run.specs.declared.print.Notice.{Notice}
use Rattle.cc_run.specs.declared.print.Notice.TheVariants.{Shown, Told}
use Rattle.cc_run.proofs.Firsts.{next_is, unbegun_begin, may_begun}
use Rattle.cc_run.proofs.KeepingLemmas.{made_then}
use Rattle.cc_run.proofs.LifeLemmas.{lives_then, lives_others, lives_start, lives_turn, newcomer_behind}
use Rattle.cc_run.proofs.OwnLemmas.{before_own, owed_own}
use Rattle.cc_run.proofs.PatienceLemmas.{lasts_none, lasts_then, lasts_start, lasts_prints, lasts_turn}
use Rattle.cc_run.proofs.KeptLemmas.{kept_both, kept_run, kept_same, kept_children}
use Rattle.cc_run.proofs.PrintingLemmas.{printed_then}
use Rattle.cc_run.proofs.Quiet.{prints_starts, prints_loads, prints_turns, prints_ids, lives_prints}
use Rattle.cc_run.proofs.Runs.{along-append, along_news, news_starts, news_loads, news_turns}

abbrev pub st : List Event → Option ℕ → Kept → SeatSeen → TurnsSeen → State
st log patience kept seat turns = record { log = log; patience = patience; kept = kept; seat = seat; turns = turns }

-- no turns: for facts that hold whatever is left
pub nought : TurnsSeen
nought = record { left = 0; used = 0 }

-- ---- counts

pub up_then : (a n b m c : ℕ) → UpBy a n b → UpBy b m c → UpBy a (n + m) c
up_then a n b m c (inl x) (inl y) = inl (omega arith)
up_then a n b m c (inl x) (inr y) = inr y
up_then a n b m c (inr x) (inl y) = inr (omega arith)
up_then a n b m c (inr x) (inr y) = inr y

pub up_none : (a b n : ℕ) → b ≡ a → n ≡ 0 → UpBy a n b
up_none a b n e z = inl (omega arith)

pub up_stands : (a b n : ℕ) → b ≡ stands (a + n) → UpBy a n b
up_stands a b n e = grind arith

pays_then : (counted : Bool) (s t u : SeatSeen) (a b : List Event) → Pays counted s a t → Pays counted t b u → Pays counted s (a ++ b) u
pays_then counted s t u a b x y = record {
  same_total = y.same_total ∙ x.same_total;
  more_taken = subst (λ n. UpBy s.taken n u.taken) (sym (sum_by-append starts_of a b)) (up_then s.taken (starts a) t.taken (starts b) u.taken x.more_taken y.more_taken);
  more_load = λ c. subst (λ n. UpBy s.load n u.load) (sym (sum_by-append held_of a b)) (up_then s.load (loads a) t.load (loads b) u.load (x.more_load c) (y.more_load c));
  later = (let p : s.faults ≤ t.faults = x.later in let q : t.faults ≤ u.faults = y.later in omega arith);
}

-- a part that starts nothing
pub pays_none : (counted : Bool) (s t : SeatSeen) (part : List Event) → starts part ≡ 0 → loads part ≡ 0 → Returned s t → Pays counted s part t
pays_none counted s t part z w back = record {
  same_total = back.same_total;
  more_taken = up_none s.taken t.taken (starts part) back.same_taken z;
  more_load = λ c. up_none s.load t.load (loads part) back.same_load w;
  later = back.later;
}

pub returned_none : (s : SeatSeen) → Returned s s
returned_none s = record { same_total = refl; same_taken = refl; same_load = refl; later = omega arith }

pub returned_then : (s t u : SeatSeen) → Returned s t → Returned t u → Returned s u
returned_then s t u a b = record {
  same_total = b.same_total ∙ a.same_total;
  same_taken = b.same_taken ∙ a.same_taken;
  same_load = b.same_load ∙ a.same_load;
  later = (let p : s.faults ≤ t.faults = a.later in let q : t.faults ≤ u.faults = b.later in omega arith);
}

made_none : (t : TurnsSeen) (part : List Event) → turns part ≡ 0 → TurnsMade t t part
made_none t part z = record { left = omega (arith, z); used = omega (arith, z) }

-- ---- one thing after another

module _ (rules : Rules) (total : Option ℕ) where
  pub works_none : (s : State) → Works rules total s s
  works_none s = record {
    part = [];
    adds = sym (append-nil s.log);
    patient = refl;
    keeps = refl;
    good = tt;
    pays = pays_none rules.counted s.seat s.seat [] refl refl (returned_none s.seat);
    made = made_none s.turns [] refl;
    lasts = lasts_none total s.patience s.log (run_of s.kept);
    lives = lives_others s.log s.log [] (sym (append-nil s.log)) (λ _. tt);
  }

  -- the same run, whose seat gave nothing and took nothing
  pub works_still : (s s' : State) → s'.log ≡ s.log → s'.patience ≡ s.patience → s'.kept ≡ s.kept → Returned s.seat s'.seat → s'.turns ≡ s.turns → Works rules total s s'
  works_still s s' l p k r t = record {
    part = [];
    adds = l ∙ sym (append-nil s.log);
    patient = p;
    keeps = sym k;
    good = tt;
    pays = pays_none rules.counted s.seat s'.seat [] refl refl r;
    made = subst (λ x. TurnsMade s.turns x []) (sym t) (made_none s.turns [] refl);
    lasts = subst (λ x. Lasts total s.patience s.log (run_of s.kept) [] (run_of x)) (sym k) (lasts_none total s.patience s.log (run_of s.kept));
    lives = lives_others s.log s'.log [] (l ∙ sym (append-nil s.log)) (λ _. tt);
  }

  pub works_then : (a b c : State) → Works rules total a b → Works rules total b c → Works rules total a c
  works_then a b c x y =
      let run : run_from rules.plan (run_of a.kept) x.part ≡ run_of b.kept = sym (kept_run rules.plan a.kept x.part) ∙ ap run_of x.keeps in
      record {
        part = x.part ++ y.part;
        adds = y.adds ∙ ap (λ l. l ++ y.part) x.adds ∙ append_assoc a.log x.part y.part;
        patient = y.patient ∙ x.patient;
        keeps = kept_both rules.plan a.kept x.part y.part ∙ ap (λ k. kept_from rules.plan k y.part) x.keeps ∙ y.keeps;
        good = along-append rules total (run_of a.kept) x.part y.part x.good (subst (λ r. Along rules total r y.part) (sym run) y.good);
        pays = pays_then rules.counted a.seat b.seat c.seat x.part y.part x.pays y.pays;
        made = made_then (x.part ++ y.part) x.part y.part (sum_by-append turns_of x.part y.part) x.made y.made;
        lasts = lasts_then total a.patience a.log b.log (run_of a.kept) (run_of b.kept) (run_of c.kept) x.part y.part x.adds x.lasts (subst (λ m. Lasts total m b.log (run_of b.kept) y.part (run_of c.kept)) x.patient y.lasts);
        lives = lives_on a.log b.log c.log x.part y.part x.adds y.adds x.lives y.lives;
      }
    where
      lives_on : (a b c : List Event) (p q : List Event) → b ≡ a ++ p → c ≡ b ++ q → LivesOn a b → LivesOn b c → LivesOn a c
      lives_on a b c p q e f x y = lives_then a b c (part_of a b p e) (part_of b c q f) x y
        where
          part_of : (a b p : List Event) → b ≡ a ++ p → b ≡ a ++ since a b
          part_of a b p e = e ∙ ap (λ l. a ++ l) (sym (since_append a p) ∙ ap (since a) (sym e))

  pub stops_then : (a b c : State) (e : RunError) → Works rules total a b → Stops rules total b e c → Stops rules total a e c
  stops_then a b c e x y = record {
    mid = y.mid;
    works = works_then a b y.mid x y.works;
    why = y.why;
    tail = y.tail;
    cause = y.cause;
    adds = y.adds;
    patient = y.patient;
    run = y.run;
    spent = y.spent;
    made = y.made;
  }

-- the same after a call that kept the queue's plan and the pool's total
pub steps_then : {T : Type 0} (rules rules' : Rules) (total total' : Option ℕ) (a b c : State) (result : Result T RunError) → rules' ≡ rules → total' ≡ total → Works rules total a b → Steps rules' total' b result c → Steps rules total a result c
steps_then rules rules' total total' a b c (Ok x) r t w y = works_then rules total a b c w (subst (λ k. Works rules k b c) t (subst (λ q. Works q total' b c) r y))
steps_then rules rules' total total' a b c (Err e) r t w y = stops_then rules total a b c e w (subst (λ k. Stops rules k b e c) t (subst (λ q. Stops q total' b e c) r y))

-- what a run went on by is what its log grew by
pub works_since : (rules : Rules) (total : Option ℕ) (a b : State) (w : Works rules total a b) → since a.log b.log ≡ w.part
works_since rules total a b w = ap (since a.log) w.adds ∙ since_append a.log w.part

pub works_extends : (rules : Rules) (total : Option ℕ) (a b : State) → Works rules total a b → b.log ≡ a.log ++ since a.log b.log
works_extends rules total a b w = w.adds ∙ ap (λ l. a.log ++ l) (sym (works_since rules total a b w))

pub steps_extends : {T : Type 0} (rules : Rules) (total : Option ℕ) (a b : State) (result : Result T RunError) → Steps rules total a result b → b.log ≡ a.log ++ since a.log b.log
steps_extends rules total a b (Ok x) w = works_extends rules total a b w
steps_extends rules total a b (Err e) s =
    let cut : b.log ≡ a.log ++ (s.works.part ++ s.tail) = s.adds ∙ ap (λ l. l ++ s.tail) s.works.adds ∙ append_assoc a.log s.works.part s.tail in
    cut ∙ ap (λ l. a.log ++ l) (sym (since_append a.log (s.works.part ++ s.tail)) ∙ ap (since a.log) (sym cut))

pub works_kept : (rules : Rules) (total : Option ℕ) (a b : State) → Works rules total a b → kept_from rules.plan a.kept (since a.log b.log) ≡ b.kept
works_kept rules total a b w = ap (kept_from rules.plan a.kept) (works_since rules total a b w) ∙ w.keeps

-- what was printed of it, and then of what comes behind
pub lines_then : {T U : Type 0} (rules rules' : Rules) (total total' : Option ℕ) (a b c : State) (x : U) (result result' : Result T RunError) → rules' ≡ rules → Works rules total a b → Steps rules' total' b result' c → IsPrinted {T = U} rules a.kept (Ok x) (since a.log b.log) → IsPrinted rules' b.kept result (since b.log c.log) → IsPrinted rules a.kept result (since a.log c.log)
lines_then rules rules' total total' a b c x result result' same w s p q =
    printed_then rules a.kept b.kept a.log b.log c.log result (works_extends rules total a b w) (steps_extends rules' total' b c result' s) (works_kept rules total a b w) p (subst (λ r. IsPrinted r b.kept result (since b.log c.log)) same q)

-- ---- lines

along_prints : (rules : Rules) (total : Option ℕ) (r : Run) (ls : List Notice) → list_all is_run_notice ls ≡ true → Along rules total r (prints ls)
along_prints rules total r [] h = tt
along_prints rules total r (Shown kind bytes ∷ ls) h = let p = and_parts (is_run_line kind) (list_all is_run_notice ls) h in (p.0, along_prints rules total r ls p.1)
along_prints rules total r (Told message ∷ ls) h = (tt, along_prints rules total r ls h)

kept_prints : (plan : Plan) (k : Kept) (ls : List Notice) → kept_from plan k (prints ls) ≡ k
kept_prints plan k [] = refl
kept_prints plan k (Shown kind bytes ∷ ls) = kept_prints plan k ls
kept_prints plan k (Told message ∷ ls) = kept_prints plan k ls

take_own : (n : ℕ) (ls : List Notice) → list_all is_run_notice ls ≡ true → list_all is_run_notice (take n ls) ≡ true
take_own zero ls h = refl
take_own (suc n) [] h = refl
take_own (suc n) (l ∷ ls) h = let p = and_parts (is_run_notice l) (list_all is_run_notice ls) h in and_from (is_run_notice l) (list_all is_run_notice (take n ls)) p.0 (take_own n ls p.1)

-- lines and messages of a run were printed and said
pub works_prints : (rules : Rules) (total : Option ℕ) (log log' : List Event) (patience : Option ℕ) (kept : Kept) (seat : SeatSeen) (made : TurnsSeen) (ls : List Notice) → list_all is_run_notice ls ≡ true → log' ≡ log ++ prints ls → Works rules total (st log patience kept seat made) (st log' patience kept seat made)
works_prints rules total log log' patience kept seat made ls own adds = record {
  part = prints ls;
  adds = adds;
  patient = refl;
  keeps = kept_prints rules.plan kept ls;
  good = along_prints rules total (run_of kept) ls own;
  pays = pays_none rules.counted seat seat (prints ls) (prints_starts ls) (prints_loads ls) (returned_none seat);
  made = made_none made (prints ls) (prints_turns ls);
  lasts = lasts_prints total patience log (run_of kept) ls;
  lives = lives_prints log log' ls adds;
}

-- ---- a start

-- a token was taken
pub record Took (old new : SeatSeen) : Type 0 where
  pub more_held : new.held ≡ old.held + 1
  pub same_total : new.total ≡ old.total
  pub more_taken : UpBy old.taken 1 new.taken
  pub more_load : UpBy old.load new.held new.load
  pub later : old.faults ≤ new.faults

carried : (counted : Bool) (held n m : ℕ) → held ≡ (if counted then n else 0) → n ≡ m → held ≡ (if counted then m else 0)
carried true held n m e f = e ∙ f
carried false held n m e f = e

load_by : (counted : Bool) (held n a b : ℕ) → held ≡ (if counted then n else 0) → UpBy a n b → counted ≡ true → UpBy a held b
load_by true held n a b e u c = subst (λ k. UpBy a k b) (sym e) u
load_by false held n a b e u c = absurd (cc)

ids_push : (cs : List Child) (id place : ℕ) → ids (map seat (cs ++ record { id = id; place = place; rest = [] } ∷ [])) ≡ ids (map seat cs) ++ id ∷ []
ids_push cs id place = ap ids (map-append seat cs (record { id = id; place = place; rest = [] } ∷ [])) ∙ map-append (λ c. c.0) (map seat cs) ((id, place) ∷ [])

load_one : (id : ℕ) (role : Role) (cmd : CommandSeen) (pipes : Pipes) (held : ℕ) → loads (Started id role cmd pipes held ∷ []) ≡ held
load_one id role cmd pipes held = let a : loads (Started id role cmd pipes held ∷ []) ≡ held + loads [] = sum_by-cons held_of (Started id role cmd pipes held) [] in let z : loads [] ≡ 0 = refl in omega arith

module _ (rules : Rules) (total patience : Option ℕ) (kept kept' : Kept) (seat0 seat' : SeatSeen) (turned : TurnsSeen) (p : Planned) (place held id : ℕ) where
  started_alone : (mid log' : List Event) → IsNext rules.plan kept.marks (Some place) → slice_get rules.plan.cmds place ≡ Some p → Took seat0 seat' → held ≡ (if rules.counted then seat'.held else 0) → seat0.held ≡ length kept.children → IfSome total (λ t. seat0.held + 1 ≤ t) → IsNewcomer mid id → log' ≡ mid ++ Started id p.role p.cmd (pipes_of rules.shows) held ∷ [] → kept' ≡ with_child id (Some place) kept → Works rules total (st mid patience kept seat0 turned) (st log' patience kept' seat' turned)
  started_alone mid log' next its took carries holds room fresh adds is =
      let n : next_place rules.plan kept.marks ≡ Some place = next_is rules.plan kept.marks (Some place) next in
      let live : length (run_of kept).live ≡ length kept.children = length-map kept.children seat in
      let h : seat0.held ≡ length kept.children = holds in
      let t : seat'.held ≡ seat0.held + 1 = took.more_held in
      let more : seat'.held ≡ length (run_of kept).live + 1 = omega arith in
      let one : seat0.held + 1 ≡ length (run_of kept).live + 1 = omega arith in
      record {
        part = Started id p.role p.cmd (pipes_of rules.shows) held ∷ [];
        adds = adds;
        patient = refl;
        keeps = ap (λ o. with_child id o kept) n ∙ sym is;
        good = (record { place = place; next = n; planned = p; its = its; asks = refl; carries = carried rules.counted held seat'.held (length (run_of kept).live + 1) carries more; within = subst (λ k. IfSome total (λ t. k ≤ t)) one room }, tt);
        pays = record {
          same_total = took.same_total;
          more_taken = took.more_taken;
          more_load = λ c. subst (λ k. UpBy seat0.load k seat'.load) (sym (load_one id p.role p.cmd (pipes_of rules.shows) held)) (load_by rules.counted held seat'.held seat0.load seat'.load carries took.more_load c);
          later = took.later;
        };
        made = made_none turned (Started id p.role p.cmd (pipes_of rules.shows) held ∷ []) refl;
        lasts = lasts_start total patience mid (run_of kept) (run_of kept') id p.role p.cmd (pipes_of rules.shows) held (ap (λ k. ids (run_of k).live) is ∙ ids_push kept.children id place);
        lives = lives_start mid log' id p.role p.cmd (pipes_of rules.shows) held adds fresh;
      }

  -- the next command was started, under a token that was taken for it
  pub works_start : (log log' part : List Event) → IsNext rules.plan kept.marks (Some place) → slice_get rules.plan.cmds place ≡ Some p → Took seat0 seat' → held ≡ (if rules.counted then seat'.held else 0) → seat0.held ≡ length kept.children → IfSome total (λ t. seat0.held + 1 ≤ t) → IsNewcomer log id → log' ≡ log ++ part → IsStart rules.shows p place held kept (Ok id) kept' part → Works rules total (st log patience kept seat0 turned) (st log' patience kept' seat' turned)
  works_start log log' part next its took carries holds room fresh adds start =
      let mid = log ++ prints (before rules.shows p) in
      works_then rules total (st log patience kept seat0 turned) (st mid patience kept seat0 turned) (st log' patience kept' seat' turned)
      (works_prints rules total log mid patience kept seat0 turned (before rules.shows p) (before_own rules.shows p) refl)
      (started_alone mid log' next its took carries holds room (newcomer_behind (log ++ prints (before rules.shows p)) log id (sym (prints_ids log (before rules.shows p))) fresh) (adds ∙ ap (λ l. log ++ l) start.0 ∙ sym (append_assoc log (prints (before rules.shows p)) (Started id p.role p.cmd (pipes_of rules.shows) held ∷ []))) start.1)

-- ---- refusals

-- a run was refused here
stops_here : (rules : Rules) (total : Option ℕ) (s s' : State) (e : RunError) (tail : List Event) → Reason rules.plan (run_of s.kept) s.turns.left e → IsCause rules.plan.cmds e tail → s'.log ≡ s.log ++ tail → s'.patience ≡ s.patience → run_of s'.kept ≡ run_of s.kept → Spent rules.plan s.kept.marks e s.seat s'.seat → s'.turns ≡ s.turns → Stops rules total s e s'
stops_here rules total s s' e tail why cause adds patient run spent made = record {
  mid = s;
  works = works_none rules total s;
  why = why;
  tail = tail;
  cause = cause;
  adds = adds;
  patient = patient;
  run = run;
  spent = spent;
  made = made;
}

-- a refusal that took no token
pub spent_none : (plan : Plan) (marks : List Mark) (e : RunError) (s t : SeatSeen) → t.held ≡ s.held → Returned s t → FaultsBy e s.faults t.faults → Spent plan marks e s t
spent_none plan marks e s t held back by = record { same_held = held; same_total = back.same_total; counts = inl (back.same_taken, back.same_load); later = back.later; by_fault = by }

start_faults : (e : RunError) (a b : ℕ) → IsStartError e → FaultsBy e a b
start_faults (ToolNotFound n) a b h = tt
start_faults (StartFault n) a b h = tt
start_faults (HostFault call why) a b h = tt
start_faults NoMemory a b h = tt
start_faults (Failed n s) a b h = absurd h
start_faults WaitFault a b h = absurd h
start_faults JobFault a b h = absurd h
start_faults TurnsSpent a b h = absurd h

-- the start of the next command was refused, and the token that was taken for it given back
module _ (rules : Rules) (total patience : Option ℕ) (kept : Kept) (seat0 seat' seat'' : SeatSeen) (turned : TurnsSeen) (p : Planned) (place held : ℕ) where
  start_spent : (e : RunError) → IsStartError e → IsNext rules.plan kept.marks (Some place) → Took seat0 seat' → seat''.held + 1 ≡ seat'.held → Returned seat' seat'' → Spent rules.plan kept.marks e seat0 seat''
  start_spent e is next took gave back = record {
    same_held = (let a : seat''.held + 1 ≡ seat'.held = gave in let b : seat'.held ≡ seat0.held + 1 = took.more_held in omega arith);
    same_total = back.same_total ∙ took.same_total;
    counts = inr ((place, next_is rules.plan kept.marks (Some place) next), is, subst (λ k. UpBy seat0.taken 1 k) (sym back.same_taken) took.more_taken, subst (λ k. UpBy seat0.load (seat0.held + 1) k) (sym back.same_load) (subst (λ k. UpBy seat0.load k seat'.load) took.more_held took.more_load));
    later = (let a : seat0.faults ≤ seat'.faults = took.later in let b : seat'.faults ≤ seat''.faults = back.later in omega arith);
    by_fault = start_faults e seat0.faults seat''.faults is;
  }

  printed_then_stopped : (log log' : List Event) (kept' : Kept) (e : RunError) (ls : List Notice) (tail : List Event) → list_all is_run_notice ls ≡ true → log' ≡ log ++ (prints ls ++ tail) → kept' ≡ kept → Reason rules.plan (run_of kept) turned.left e → IsCause rules.plan.cmds e tail → Spent rules.plan kept.marks e seat0 seat'' → Stops rules total (st log patience kept seat0 turned) e (st log' patience kept' seat'' turned)
  printed_then_stopped log log' kept' e ls tail own adds same why cause spent =
      stops_then rules total (st log patience kept seat0 turned) (st (log ++ prints ls) patience kept seat0 turned) (st log' patience kept' seat'' turned) e
      (works_prints rules total log (log ++ prints ls) patience kept seat0 turned ls own refl)
      (stops_here rules total (st (log ++ prints ls) patience kept seat0 turned) (st log' patience kept' seat'' turned) e tail why cause (adds ∙ sym (append_assoc log (prints ls) tail)) refl (ap run_of same) spent refl)

  pub stops_start : (log log' part : List Event) (kept' : Kept) (e : RunError) → IsNext rules.plan kept.marks (Some place) → slice_get rules.plan.cmds place ≡ Some p → Took seat0 seat' → seat''.held + 1 ≡ seat'.held → Returned seat' seat'' → log' ≡ log ++ part → IsStart rules.shows p place held kept (Err e) kept' part → Stops rules total (st log patience kept seat0 turned) e (st log' patience kept' seat'' turned)
  stops_start log log' part kept' (ToolNotFound at) next its took gave back adds h =
      let n : next_place rules.plan kept.marks ≡ Some at = next_is rules.plan kept.marks (Some place) next ∙ ap Some (sym h.1) in
      printed_then_stopped log log' kept' (ToolNotFound at) (before rules.shows p) (Missing p.role p.cmd ∷ []) (before_own rules.shows p) (adds ∙ ap (λ l. log ++ l) h.0) h.2 n (p, (ap (slice_get rules.plan.cmds) h.1 ∙ its, refl)) (start_spent (ToolNotFound at) tt next took gave back)
  stops_start log log' part kept' (StartFault at) next its took gave back adds (why, h) =
      let n : next_place rules.plan kept.marks ≡ Some at = next_is rules.plan kept.marks (Some place) next ∙ ap Some (sym h.1) in
      printed_then_stopped log log' kept' (StartFault at) (before rules.shows p) (Fault Starting why ∷ []) (before_own rules.shows p) (adds ∙ ap (λ l. log ++ l) h.0) h.2 n (why, refl) (start_spent (StartFault at) tt next took gave back)
  stops_start log log' part kept' (HostFault call why) next its took gave back adds (count, h) =
      printed_then_stopped log log' kept' (HostFault call why) (take count (before rules.shows p)) (Fault call why ∷ []) (take_own count (before rules.shows p) (before_own rules.shows p)) (adds ∙ ap (λ l. log ++ l) h.0) h.2 h.1 refl (start_spent (HostFault call why) tt next took gave back)
  stops_start log log' part kept' NoMemory next its took gave back adds (count, h) =
      printed_then_stopped log log' kept' NoMemory (take count (before rules.shows p)) [] (take_own count (before rules.shows p) (before_own rules.shows p)) (adds ∙ ap (λ l. log ++ l) (h.0 ∙ sym (append-nil (prints (take count (before rules.shows p)))))) h.1 tt refl (start_spent NoMemory tt next took gave back)
  stops_start log log' part kept' (Failed n s) next its took gave back adds h = absurd h
  stops_start log log' part kept' WaitFault next its took gave back adds h = absurd h
  stops_start log log' part kept' JobFault next its took gave back adds h = absurd h
  stops_start log log' part kept' TurnsSpent next its took gave back adds h = absurd h

-- the pool failed
pub stops_fault : (rules : Rules) (total patience : Option ℕ) (log : List Event) (kept : Kept) (s t : SeatSeen) (turned : TurnsSeen) → t.held ≡ s.held → Returned s t → Rose s.faults t.faults → Stops rules total (st log patience kept s turned) JobFault (st log patience kept t turned)
stops_fault rules total patience log kept s t turned held back rose =
    stops_here rules total (st log patience kept s turned) (st log patience kept t turned) JobFault [] tt refl (sym (append-nil log)) refl refl (spent_none rules.plan kept.marks JobFault s t held back rose) refl

-- ---- a turn

turned_turns : (ns : List News) → turns (Turn 1 ∷ reports ns) ≡ 1
turned_turns ns = let a : turns (Turn 1 ∷ reports ns) ≡ 1 + turns (reports ns) = sum_by-cons turns_of (Turn 1) (reports ns) in let b : turns (reports ns) ≡ 0 = news_turns ns in omega arith

turned_starts : (ns : List News) → starts (Turn 1 ∷ reports ns) ≡ 0
turned_starts ns = let a : starts (Turn 1 ∷ reports ns) ≡ 0 + starts (reports ns) = sum_by-cons starts_of (Turn 1) (reports ns) in let b : starts (reports ns) ≡ 0 = news_starts ns in omega arith

turned_loads : (ns : List News) → loads (Turn 1 ∷ reports ns) ≡ 0
turned_loads ns = let a : loads (Turn 1 ∷ reports ns) ≡ 0 + loads (reports ns) = sum_by-cons held_of (Turn 1) (reports ns) in let b : loads (reports ns) ≡ 0 = news_loads ns in omega arith

made_one : (old new : TurnsSeen) (part : List Event) → turns part ≡ 1 → IsOneFewer old new → TurnsMade old new part
made_one old new part z f = record { left = omega (arith, z, f.0); used = omega (arith, z, f.1) }

module _ (rules : Rules) (total : Option ℕ) (log mid : List Event) (patience patience' : Option ℕ) (kept : Kept) (seat0 seat' : SeatSeen) (old new : TurnsSeen) (news : List News) where
  -- a turn was made: what it leaves, before its lines are printed
  pub works_turn : Busy rules.plan total (run_of kept) → mid ≡ log ++ Turn 1 ∷ reports news → patience' ≡ patience → Waits patience' mid → IsNews log news → Returned seat0 seat' → IsOneFewer old new → Works rules total (st log patience kept seat0 old) (st mid patience' (kept_from rules.plan kept (Turn 1 ∷ reports news)) seat' new)
  works_turn busy adds patient waits fresh back fewer = record {
    part = Turn 1 ∷ reports news;
    adds = adds;
    patient = patient;
    keeps = refl;
    good = (busy, along_news rules total (run_of kept) news);
    pays = pays_none rules.counted seat0 seat' (Turn 1 ∷ reports news) (turned_starts news) (turned_loads news) back;
    made = made_one old new (Turn 1 ∷ reports news) (turned_turns news) fewer;
    lasts = lasts_turn total patience rules.plan log mid (run_of kept) (run_of (kept_from rules.plan kept (Turn 1 ∷ reports news))) news busy adds (subst (λ p. Waits p mid) patient waits) (kept_run rules.plan kept (Turn 1 ∷ reports news));
    lives = lives_turn log mid news adds fresh;
  }

-- behind a turn its lines were printed, or the first of them, and then one was refused
module _ (rules : Rules) (total : Option ℕ) (log mid new : List Event) (patience patience' patience'' : Option ℕ) (kept kept' : Kept) (seat0 seat' : SeatSeen) (old turned : TurnsSeen) (news : List News) where
  abbrev behind : Kept
  behind = kept_from rules.plan kept (Turn 1 ∷ reports news)

  same_run : run_of kept' ≡ run_from rules.plan (run_of kept) (reports news) → run_of kept' ≡ run_of behind
  same_run e = e ∙ sym (kept_run rules.plan kept (Turn 1 ∷ reports news))

  went : Works rules total (st log patience kept seat0 old) (st mid patience' behind seat' turned) → (ls : List Notice) → list_all is_run_notice ls ≡ true → Works rules total (st log patience kept seat0 old) (st (mid ++ prints ls) patience' behind seat' turned)
  went w ls own = works_then rules total (st log patience kept seat0 old) (st mid patience' behind seat' turned) (st (mid ++ prints ls) patience' behind seat' turned) w (works_prints rules total mid (mid ++ prints ls) patience' behind seat' turned ls own refl)

  pub told_steps : {T : Type 0} (result : Result T RunError) → Works rules total (st log patience kept seat0 old) (st mid patience' behind seat' turned) → patience'' ≡ patience' → run_of kept' ≡ run_from rules.plan (run_of kept) (reports news) → OnOk result (kept'.children ≡ children_from kept.children (reports news)) → IfErr result IsPrintError → new ≡ mid ++ since mid new → ArePrinted (owed_from rules.shows rules.warns rules.plan.cmds kept.children (reports news)) result (since mid new) → Steps rules total (st log patience kept seat0 old) result (st new patience'' kept' seat' turned)
  told_steps {T} (Ok x) w p run children k adds printed =
      let ls = owed_from rules.shows rules.warns rules.plan.cmds kept.children (reports news) in
      let own = owed_own rules.shows rules.warns rules.plan.cmds kept.children (reports news) in
      let same : kept' ≡ behind = kept_same kept' behind (children ∙ sym (kept_children rules.plan kept news)) (same_run run) in
      works_then rules total (st log patience kept seat0 old) (st (mid ++ prints ls) patience' behind seat' turned) (st new patience'' kept' seat' turned) (went w ls own)
      (works_still rules total (st (mid ++ prints ls) patience' behind seat' turned) (st new patience'' kept' seat' turned) (adds ∙ ap (λ l. mid ++ l) printed) p same (returned_none seat') refl)
  told_steps {T} (Err e) w p run children k adds printed = stop e k printed
    where
      ls : List Notice
      ls = owed_from rules.shows rules.warns rules.plan.cmds kept.children (reports news)

      own : list_all is_run_notice ls ≡ true
      own = owed_own rules.shows rules.warns rules.plan.cmds kept.children (reports news)

      at : (e : RunError) (n : ℕ) (tail : List Event) → Reason rules.plan (run_of behind) turned.left e → IsCause rules.plan.cmds e tail → FaultsBy e seat'.faults seat'.faults → since mid new ≡ prints (take n ls) ++ tail → Stops rules total (st log patience kept seat0 old) e (st new patience'' kept' seat' turned)
      at e n tail why cause by is =
          stops_then rules total (st log patience kept seat0 old) (st (mid ++ prints (take n ls)) patience' behind seat' turned) (st new patience'' kept' seat' turned) e (went w (take n ls) (take_own n ls own))
          (stops_here rules total (st (mid ++ prints (take n ls)) patience' behind seat' turned) (st new patience'' kept' seat' turned) e tail why cause (adds ∙ ap (λ l. mid ++ l) is ∙ sym (append_assoc mid (prints (take n ls)) tail)) p (same_run run) (spent_none rules.plan behind.marks e seat' seat' refl (returned_none seat') by) refl)

      stop : (e : RunError) → IsPrintError e → ArePrinted {T = T} ls (Err e) (since mid new) → Stops rules total (st log patience kept seat0 old) e (st new patience'' kept' seat' turned)
      stop (HostFault call why) k (n, h) = at (HostFault call why) n (Fault call why ∷ []) k refl tt h.2
      stop NoMemory k (n, h) = at NoMemory n [] tt refl tt h.2
      stop (ToolNotFound place) k h = absurd k
      stop (Failed place status) k h = absurd k
      stop (StartFault place) k h = absurd k
      stop WaitFault k h = absurd k
      stop JobFault k h = absurd k
      stop TurnsSpent k h = absurd k

-- no turn was made
pub unturned_stops : (rules : Rules) (total patience patience' : Option ℕ) (log new : List Event) (kept : Kept) (seat0 : SeatSeen) (turned : TurnsSeen) (e : RunError) → patience' ≡ patience → IsUnturned log new e → (e ≡ TurnsSpent → turned.left ≡ 0) → (IsSettled rules.plan (run_of kept) → ⊥) → Stops rules total (st log patience kept seat0 turned) e (st new patience' kept seat0 turned)
unturned_stops rules total patience patience' log new kept seat0 turned TurnsSpent p h left going =
    stops_here rules total (st log patience kept seat0 turned) (st new patience' kept seat0 turned) TurnsSpent [] (left refl, going) refl (h ∙ sym (append-nil log)) p refl (spent_none rules.plan kept.marks TurnsSpent seat0 seat0 refl (returned_none seat0) tt) refl
unturned_stops rules total patience patience' log new kept seat0 turned NoMemory p h left going =
    stops_here rules total (st log patience kept seat0 turned) (st new patience' kept seat0 turned) NoMemory [] tt refl (h ∙ sym (append-nil log)) p refl (spent_none rules.plan kept.marks NoMemory seat0 seat0 refl (returned_none seat0) tt) refl
unturned_stops rules total patience patience' log new kept seat0 turned WaitFault p (why, h) left going =
    stops_here rules total (st log patience kept seat0 turned) (st new patience' kept seat0 turned) WaitFault (Fault Turning why ∷ []) tt (why, refl) h p refl (spent_none rules.plan kept.marks WaitFault seat0 seat0 refl (returned_none seat0) tt) refl
unturned_stops rules total patience patience' log new kept seat0 turned (ToolNotFound n) p h left going = absurd h
unturned_stops rules total patience patience' log new kept seat0 turned (Failed n s) p h left going = absurd h
unturned_stops rules total patience patience' log new kept seat0 turned (StartFault n) p h left going = absurd h
unturned_stops rules total patience patience' log new kept seat0 turned (HostFault call why) p h left going = absurd h
unturned_stops rules total patience patience' log new kept seat0 turned JobFault p h left going = absurd h

-- ---- tokens

-- a place of a list has its command
pub some_there : (cmds : List Planned) (i : ℕ) → i < length cmds → slice_get cmds i ≡ None → ⊥
some_there [] i l e = absurd (omega arith)
some_there (c ∷ cs) i l e = let f : slice_get (c ∷ cs) i ≡ Some (get_or (c ∷ cs) i c) = slice_get-get_or (c ∷ cs) i c l in cc

-- where the total is told, one more than before is at most that
pub room_of : (t t' : Option ℕ) (n m : ℕ) → t' ≡ t → m ≡ n + 1 → IsBounded t' m → IfSome t (λ k. n + 1 ≤ k)
room_of t t' n m same e h = subst (λ o. IfSome o (λ k. n + 1 ≤ k)) same (at t' h)
  where
    at : (o : Option ℕ) → IsBounded o m → IfSome o (λ k. n + 1 ≤ k)
    at None h = tt
    at (Some k) h = let l : m ≤ k = h.1 in omega arith

-- a pool that one caller owns answers that none is free where the seat holds all
pub full_of : {A : Type 0} (res want : A) (t : Option ℕ) (n m : ℕ) → n ≡ m → res ≡ want → IsBounded t n → IfSome t (λ k. res ≡ want ↔ n ≡ k) → IfSome t (λ k. (1 ≤ k) × (m ≡ k))
full_of res want None n m e is b h = tt
full_of res want (Some k) n m e is b h = (b.0, sym e ∙ h.0 is)

-- ---- between starts and turns

-- where no command more was started and the run isn't over, it is busy
pub busy_filled : (plan : Plan) (total : Option ℕ) (kept : Kept) (step : Step) → IsFilled plan total kept step → (step ≡ Pending) ⊎ (0 < length kept.children) → Busy plan total (run_of kept)
busy_filled plan None kept step f o = tt
busy_filled plan (Some t) kept Pending f o =
    let n : length (run_of kept).live ≡ length kept.children = length-map kept.children seat in
    let l : 1 ≤ t = f.1.0 in
    let k : length kept.children ≡ t = f.1.1 in
    (omega arith, inl (n ∙ k))
busy_filled plan (Some t) kept Ready f (inl e) = absurd (cc)
busy_filled plan (Some t) kept Ready f (inr l) = let n : length (run_of kept).live ≡ length kept.children = length-map kept.children seat in (omega arith, inr f)

pub open_filled : (plan : Plan) (total : Option ℕ) (kept : Kept) (step : Step) → IsFilled plan total kept step → (step ≡ Pending) ⊎ (0 < length kept.children) → IsSettled plan (run_of kept) → ⊥
open_filled plan total kept Pending f o s = let e : Some f.0.0 ≡ None = sym f.0.1 ∙ s.1 in cc
open_filled plan total kept Ready f (inl e) s = cc
open_filled plan total kept Ready f (inr l) s = let n : length (run_of kept).live ≡ length kept.children = length-map kept.children seat in let e : length (run_of kept).live ≡ 0 = ap length s.0 in omega arith

pub filled_pending : (plan : Plan) (total total' : Option ℕ) (kept : Kept) (p : ℕ) → total' ≡ total → next_place plan kept.marks ≡ Some p → IfSome total' (λ t. (1 ≤ t) × (length kept.children ≡ t)) → IsFilled plan total kept Pending
filled_pending plan total total' kept p same next full = ((p, next), subst (λ o. IfSome o (λ t. (1 ≤ t) × (length kept.children ≡ t))) same full)

-- what began is begun no more
pub fewer_left : (plan plan' : Plan) (total : Option ℕ) (kept kept' : Kept) (p : ℕ) → plan' ≡ plan → IsNext plan kept.marks (Some p) → StartsOne plan total kept kept' Ready → unbegun (length plan'.cmds) kept'.marks < unbegun (length plan.cmds) kept.marks
fewer_left plan plan' total kept kept' p same next s =
    let q : Some s.1 ≡ Some p = sym s.2.0 ∙ next_is plan kept.marks (Some p) next in
    let e : s.1 ≡ p = cc in
    let one : unbegun (length plan.cmds) (kept.marks ++ Began p ∷ []) + 1 ≡ unbegun (length plan.cmds) kept.marks = unbegun_begin (length plan.cmds) p kept.marks next.below (may_begun plan kept.marks p next.holds) in
    let two : unbegun (length plan'.cmds) kept'.marks ≡ unbegun (length plan.cmds) (kept.marks ++ Began p ∷ []) = ap (λ x. unbegun (length x.cmds) kept'.marks) same ∙ ap (λ k. unbegun (length plan.cmds) k.marks) s.2.1 ∙ ap (λ n. unbegun (length plan.cmds) (kept.marks ++ Began n ∷ [])) e in
    omega arith

-- the sum of turns stays
pub turns_few : (rules : Rules) (total : Option ℕ) (a b : State) → Works rules total a b → a.turns.left + a.turns.used < 2 ^ 64 → b.turns.left + b.turns.used < 2 ^ 64
turns_few rules total a b w few =
    let l : b.turns.left + turns w.part ≡ a.turns.left = w.made.left in
    let u : b.turns.used ≡ a.turns.used + turns w.part = w.made.used in
    omega arith

pub no_seats : (cs : List Child) → length cs ≡ 0 → map seat cs ≡ []
no_seats [] e = refl
no_seats (c ∷ cs) e = absurd (omega arith)

-- ---- tokens that were asked for in vain

pub later_misses : (result : Result Step RunError) (a b c : ℕ) → a ≤ b → MissesBy result b c → a ≤ c
later_misses (Ok Ready) a b c x y = let y' : b ≤ c = y in omega arith
later_misses (Ok Pending) a b c x y = let y' : b ≤ c = y.0 in omega arith
later_misses (Err e) a b c x y = let y' : b ≤ c = y in omega arith

pub misses_then : (result : Result Step RunError) (a b c : ℕ) → a ≤ b → MissesBy result b c → MissesBy result a c
misses_then (Ok Ready) a b c x y = let y' : b ≤ c = y in omega arith
misses_then (Ok Pending) a b c x y = let y' : b ≤ c = y.0 in ((let r : a ≤ c = omega arith in r), λ l. let k : b < c = y.1 l in omega arith)
misses_then (Err e) a b c x y = let y' : b ≤ c = y in omega arith
