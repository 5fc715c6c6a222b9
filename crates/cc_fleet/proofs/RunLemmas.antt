-- The run of the commands of all members, as it is stated of a part.
use Rattle.std.proofs.Common.{◌≡◌, ◌⊎◌, inl, inr, ℕ, ◌+◌, ◌<◌, ◌≤◌, List, [], ◌∷◌, ◌++◌, length, get_or, Option, Result, Ok, Err, refl, sym, ◌∙◌, ap, subst, arith}
use Rattle.std.specs.Prelude.{IfSome}
use Rattle.std.specs.Global.{Vec}
use Rattle.cc_host.specs.Part.{since}
use Rattle.cc_host.specs.declared.event.Event.{Event}
use Rattle.cc_host.specs.declared.event.Status.{Status}
use Rattle.cc_run.specs.Children.{nothing_kept}
use Rattle.cc_run.specs.Keeping.{TurnsMade}
use Rattle.cc_run.specs.Listed.{listed_plan}
use Rattle.cc_run.specs.Part.{turns}
use Rattle.cc_run.specs.Plan.{Plan}
use Rattle.cc_run.specs.Printing.{IsPrinted}
use Rattle.cc_run.specs.Rules.{Rules, rules}
use Rattle.cc_run.specs.Seat.{SeatSeen}
use Rattle.cc_run.specs.State.{State}
use Rattle.cc_run.specs.Whole.{RanAll}
use Rattle.cc_run.specs.declared.error.RunError.{RunError}
use Rattle.cc_run.specs.declared.error.RunError.TheVariants.{ToolNotFound, Failed, StartFault, WaitFault, HostFault, JobFault, TurnsSpent, NoMemory}
use Rattle.cc_run.specs.declared.mark.Mark.{Mark}
use Rattle.cc_run.specs.declared.planned.Planned.{Planned}
use Rattle.cc_run.specs.declared.planned.Shows.{Shows}
use Rattle.cc_run.specs.declared.planned.Turns.{Turns as TurnsSeen}
use Rattle.cc_run.proofs.Ends.{ran_extends, ran_patient, ran_own, ran_turns, ran_total}
use Rattle.cc_tool.specs.Asked.{question_events}
use Rattle.cc_build.specs.Course.{Course}
use Rattle.cc_build.specs.Error.{ErrorSeen, no_memory}
use Rattle.cc_build.specs.RunErrors.{run_error}
use Rattle.cc_build.specs.Went.{Terms, Means, RanOne, terms, beside_rules, begins, idle_seat, turns_at}
use Rattle.cc_build.proofs.Running.{own_asks_none}
use Rattle.cc_fleet.specs.Failures.{Failure}
use Rattle.cc_fleet.specs.Run.{RanSeveral, RanJoined, RunsTo, RunsBeside, RunsAll, RunEnds, StopsRun, FailuresBy, FailuresAfter, IsRefusal, marks_of}
use Rattle.cc_fleet.specs.declared.joined.Joined.{Joined}

-- ---- what a run as a queue leaves

module _ (its : Rules) (total : Option ℕ) (old : State) (answer : Result (List Mark) RunError) (log : List Event) (patience : Option ℕ) (seat : SeatSeen) (made : TurnsSeen) (ran : RanAll its total old answer log patience seat made) where
  pub several_extends : log ≡ old.log ++ since old.log log
  several_extends = ran_extends its total old answer log patience seat made ran

  pub several_patient : patience ≡ old.patience
  several_patient = ran_patient its total old answer log patience seat made ran

  pub several_asks_none : question_events (since old.log log) ≡ []
  several_asks_none = own_asks_none (since old.log log) (ran_own its total old answer log patience seat made ran)

  -- the sum of the turns that are left and of those that were made
  pub several_sum : made.left + made.used ≡ old.turns.left + old.turns.used
  several_sum =
      let m : TurnsMade old.turns made (since old.log log) = ran_turns its total old answer log patience seat made ran in
      let a : made.left + turns (since old.log log) ≡ old.turns.left = m.left in
      let b : made.used ≡ old.turns.used + turns (since old.log log) = m.used in
      omega arith

  -- it went on from that log by its part, on a host of the same patience
  several_part : RanAll its total old answer (old.log ++ since old.log log) old.patience seat made
  several_part =
      subst (λ (p : Option ℕ). RanAll its total old answer (old.log ++ since old.log log) p seat made) (ran_patient its total old answer log patience seat made ran)
      (subst (λ (l : List Event). RanAll its total old answer l patience seat made) (ran_extends its total old answer log patience seat made ran) ran)

module _ (t : Terms) (ps : List Planned) (old new : List Event) (patience : Option ℕ) (x y : Means) (before behind : ℕ) where
  several_of : (r : Result (List Mark) RunError) (held held' : ℕ) (total' : Option ℕ) → held ≡ 0 → held' ≡ 0 → IfSome t.patience (λ most. 1 ≤ most) → RanAll (beside_rules t ps) t.total (begins t old (record (idle_seat t.total x) { held = held }) (turns_at x before)) r new patience (record (idle_seat total' y) { held = held' }) (turns_at y behind) → IsPrinted (beside_rules t ps) nothing_kept r (since old new) → RanSeveral t ps (since old new) r x y
  several_of r held held' total' none none' least ran lines = record {
    log = old;
    before = before;
    behind = behind;
    least = least;
    run =
        subst (λ (k : ℕ). RanAll (beside_rules t ps) t.total (begins t old (record (idle_seat t.total x) { held = k }) (turns_at x before)) r (old ++ since old new) t.patience (idle_seat t.total y) (turns_at y behind)) none
        (subst (λ (o : Option ℕ). RanAll (beside_rules t ps) t.total (begins t old (record (idle_seat t.total x) { held = held }) (turns_at x before)) r (old ++ since old new) t.patience (idle_seat o y) (turns_at y behind))
        (ran_total (beside_rules t ps) t.total (begins t old (record (idle_seat t.total x) { held = held }) (turns_at x before)) r new patience (record (idle_seat total' y) { held = held' }) (turns_at y behind) ran)
        (subst (λ (k : ℕ). RanAll (beside_rules t ps) t.total (begins t old (record (idle_seat t.total x) { held = held }) (turns_at x before)) r (old ++ since old new) t.patience (record (idle_seat total' y) { held = k }) (turns_at y behind)) none'
        (several_part (beside_rules t ps) t.total (begins t old (record (idle_seat t.total x) { held = held }) (turns_at x before)) r new patience (record (idle_seat total' y) { held = held' }) (turns_at y behind) ran)));
    lines = lines;
  }

  -- the same of a queue that is the list
  pub ran_several : (plan : Plan) → plan ≡ listed_plan t.shows.stop ps → (r : Result (List Mark) RunError) (held held' : ℕ) (total' : Option ℕ) → held ≡ 0 → held' ≡ 0 → IfSome t.patience (λ most. 1 ≤ most) → RanAll (rules plan t.shows) t.total (begins t old (record (idle_seat t.total x) { held = held }) (turns_at x before)) r new patience (record (idle_seat total' y) { held = held' }) (turns_at y behind) → IsPrinted (rules plan t.shows) nothing_kept r (since old new) → RanSeveral t ps (since old new) r x y
  ran_several plan listed r held held' total' none none' least ran lines =
      several_of r held held' total' none none' least
      (subst (λ (p : Plan). RanAll (rules p t.shows) t.total (begins t old (record (idle_seat t.total x) { held = held }) (turns_at x before)) r new patience (record (idle_seat total' y) { held = held' }) (turns_at y behind)) listed ran)
      (subst (λ (p : Plan). IsPrinted (rules p t.shows) nothing_kept r (since old new)) listed lines)

-- ---- what a run answers

-- none was run
pub none_ran : (t : Terms) (all : Joined) (answer : Result (Vec (Option Failure)) RunError) (part : List Event) (x : Means) → part ≡ [] → FailuresBy all [] answer → RunsTo t [] all answer part x x
none_ran t all (Ok failures) part x none by = record { marks = []; ran = (none, refl, refl); are = by }
none_ran t all (Err e) part x none by = (Ok [], ((none, refl, refl), by))

-- one was run alone, and it counts whether it failed
pub lone_ran : (t : Terms) (p : Planned) (all : Joined) (own : Result (Unit {0}) RunError) (marks : List Mark) (answer : Result (Vec (Option Failure)) RunError) (part : List Event) (x y : Means) → RanOne t p part own x y → Ok marks ≡ marks_of own → FailuresBy all marks answer → RunsTo t (p ∷ []) all answer part x y
lone_ran t p all own marks (Ok failures) part x y ran is by = record { marks = marks; ran = (own, (ran, is)); are = by }
lone_ran t p all own marks (Err e) part x y ran is by = (Ok marks, ((own, (ran, is)), by))

-- the same by what counts of its answer
pub lone_after : (t : Terms) (p : Planned) (all : Joined) (own : Result (Unit {0}) RunError) (answer : Result (Vec (Option Failure)) RunError) (part : List Event) (x y : Means) → RanOne t p part own x y → FailuresAfter all (marks_of own) answer → RunsTo t (p ∷ []) all answer part x y
lone_after t p all own answer part x y ran after = by_marks (marks_of own) refl after
  where
    by_marks : (m : Result (List Mark) RunError) → m ≡ marks_of own → FailuresAfter all m answer → RunsTo t (p ∷ []) all answer part x y
    by_marks (Ok marks) is by = lone_ran t p all own marks answer part x y ran is by
    by_marks (Err e) is same = subst (λ a. RunsTo t (p ∷ []) all a part x y) (sym same) (Err e, ((own, (ran, is)), refl))

-- an error that is no failure counts as it is
pub other_marks : (e : RunError) → ((place : ℕ) (status : Status) → e ≡ Failed place status → ⊥) → marks_of (Err e) ≡ Err e
other_marks (Failed place status) other = absurd (other place status refl)
other_marks (ToolNotFound place) other = refl
other_marks (StartFault place) other = refl
other_marks WaitFault other = refl
other_marks (HostFault call why) other = refl
other_marks JobFault other = refl
other_marks TurnsSpent other = refl
other_marks NoMemory other = refl

-- several were run
pub several_ran : (shows : Shows) (all : Joined) (marks : List Mark) (answer : Result (Vec (Option Failure)) RunError) (part : List Event) (c : Course) → RanSeveral (terms shows c.total c.patience) all.commands.items part (Ok marks) c.before c.after → FailuresBy all marks answer → RunsBeside shows all answer part c
several_ran shows all marks (Ok failures) part c ran by = (marks, (ran, by))
several_ran shows all marks (Err e) part c ran by = (Ok marks, (ran, by))

several_joined : (t : Terms) (ps : List Planned) (part : List Event) (answer : Result (List Mark) RunError) (x y : Means) → 2 ≤ length ps → RanSeveral t ps part answer x y → RanJoined t ps part answer x y
several_joined t [] part answer x y many ran = absurd (omega (arith, many))
several_joined t (p ∷ []) part answer x y many ran = absurd (omega (arith, many))
several_joined t (p ∷ q ∷ ps) part answer x y many ran = ran

pub beside_ran : (shows : Shows) (all : Joined) (answer : Result (Vec (Option Failure)) RunError) (part : List Event) (c : Course) → 2 ≤ length all.commands.items → RunsBeside shows all answer part c → RunsAll shows all answer part c
beside_ran shows all (Ok failures) part c many ran =
    record { marks = ran.0; ran = several_joined (terms shows c.total c.patience) all.commands.items part (Ok ran.0) c.before c.after many ran.1.0; are = ran.1.1 }
beside_ran shows all (Err e) part c many ran =
    (ran.0, (several_joined (terms shows c.total c.patience) all.commands.items part ran.0 c.before c.after many ran.1.0, ran.1.1))

-- a list without an element, and one of one
pub none_of : {X : Type 0} (xs : List X) → length xs < 1 → xs ≡ []
none_of [] few = refl
none_of (x ∷ xs) few = absurd (omega (arith, few))

pub one_of : {X : Type 0} (xs : List X) (x : X) → 1 ≤ length xs → length xs < 2 → x ≡ get_or xs 0 x → xs ≡ x ∷ []
one_of [] x some few is = absurd (omega (arith, some))
one_of (y ∷ []) x some few is = ap (λ z. z ∷ []) (sym is)
one_of (y ∷ z ∷ xs) x some few is = absurd (omega (arith, few))

-- ---- the error of a run

stops_by : (cmds : List Planned) (answer : Result (List Mark) RunError) (e : RunError) (error : ErrorSeen) → IsRefusal e answer → (error ≡ run_error cmds e) ⊎ (error ≡ no_memory) → StopsRun cmds answer error
stops_by cmds (Ok marks) e error is (inl of) = of ∙ ap (run_error cmds) is
stops_by cmds (Ok marks) e error is (inr memory) = memory
stops_by cmds (Err other) e error is (inl of) = inr (of ∙ ap (run_error cmds) (sym is))
stops_by cmds (Err other) e error is (inr memory) = inl memory

pub run_stops : (t : Terms) (all : Joined) (e : RunError) (error : ErrorSeen) (part : List Event) (x y : Means) → RunsTo t all.commands.items all (Err e) part x y → (error ≡ run_error all.commands.items e) ⊎ (error ≡ no_memory) → RunEnds t all (Err error) part x y
run_stops t all e error part x y ran of = (ran.0, (ran.1.0, stops_by all.commands.items ran.0 e error ran.1.1 of))
