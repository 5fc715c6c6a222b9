-- Runs of commands as stages.
use Rattle.std.proofs.Common.{◌≡◌, ◌⊎◌, ◌+◌, inl, inr, Bool, ℕ, List, [], ◌∷◌, ◌++◌, ◌≤◌, true, false, Option, None, Some, Result, Ok, Err, refl, ◌∙◌, ap, subst, arith}
use Rattle.std.specs.Prelude.{IfSome}
use Rattle.std.specs.List.{list_all}
use Rattle.std.proofs.lemmas.Bool.{and_parts}
use Rattle.cc_host.specs.Part.{since}
use Rattle.cc_host.specs.declared.event.Event.{Event}
use Rattle.cc_host.specs.declared.event.Event.TheVariants.{Answered, Reused, Unasked, Drawn, Opened, Taken, Dropped, Made, Fault}
use Rattle.cc_host.specs.declared.event.HostCall.TheVariants.{Start as Starts, Turn as Turns, Print as Printing, Output, Probe, MakeDir, CreateProbe, Write, Remove, Vars}
use Rattle.cc_host.specs.declared.event.Scope.TheVariants.{Build, Probe as ForProbes}
use Rattle.cc_run.specs.Children.{nothing_kept}
use Rattle.cc_run.specs.Own.{is_of_run}
use Rattle.cc_run.specs.Keeping.{TurnsMade}
use Rattle.cc_run.specs.Part.{turns}
use Rattle.cc_run.specs.Printing.{IsPrinted}
use Rattle.cc_run.specs.Rules.{Rules}
use Rattle.cc_run.specs.Seat.{SeatSeen}
use Rattle.cc_run.specs.State.{State}
use Rattle.cc_run.specs.Whole.{RanList}
use Rattle.cc_run.specs.declared.error.RunError.{RunError}
use Rattle.cc_run.specs.declared.planned.Planned.{Planned}
use Rattle.cc_tool.specs.Asked.{question_event, question_events}
use Rattle.cc_build.specs.Error.{ErrorSeen, no_memory}
use Rattle.cc_build.specs.RunErrors.{run_error}
use Rattle.cc_build.specs.Stage.Stage.{RunsOne, RunsAll}
use Rattle.cc_run.specs.Output.{IsSilentRun}
use Rattle.cc_run.specs.declared.planned.Shows.{Shows}
use Rattle.cc_run.specs.declared.planned.Turns.{Turns as TurnsSeen}
use Rattle.cc_run.proofs.Ends.{ran_extends, ran_patient, ran_own, ran_turns, ran_total}
use Rattle.cc_build.specs.Went.{Terms, Means, terms, beside_rules, alone_rules, idle_seat, turns_at, begins, is_refusal, Tried, RanOne, RanAll, IsOf, Went, Halted}
use Rattle.cc_build.proofs.Trying.{done_of, done_sole, broken_of, broken_sole, sole_asks_none}
use Rattle.cc_build.proofs.Going.{went_one, halted_at}

-- ---- a run asks nothing

own_event : (event : Event) → is_of_run event ≡ true → question_event event ≡ []
own_event (Answered question files outcome) is = absurd (cc)
own_event (Reused question verdict) is = absurd (cc)
own_event (Unasked question) is = absurd (cc)
own_event (Drawn word) is = absurd (cc)
own_event (Opened path bytes) is = absurd (cc)
own_event (Taken path) is = absurd (cc)
own_event (Dropped path) is = absurd (cc)
own_event (Made Build path) is = absurd (cc)
own_event (Made ForProbes path) is = absurd (cc)
own_event (Fault Starts why) is = refl
own_event (Fault Turns why) is = refl
own_event (Fault Printing why) is = refl
own_event (Fault Output why) is = absurd (cc)
own_event (Fault Probe why) is = absurd (cc)
own_event (Fault (MakeDir scope) why) is = absurd (cc)
own_event (Fault CreateProbe why) is = absurd (cc)
own_event (Fault Write why) is = absurd (cc)
own_event (Fault Remove why) is = absurd (cc)
own_event (Fault Vars why) is = absurd (cc)
own_event event is = refl

pub own_asks_none : (part : List Event) → list_all is_of_run part ≡ true → question_events part ≡ []
own_asks_none [] own = refl
own_asks_none (event ∷ part) own = let p = and_parts _ _ own in ap (λ l. l ++ question_events part) (own_event event p.0) ∙ own_asks_none part p.1

-- ---- a run of commands only adds such events to the log

module _ (rules : Rules) (total : Option ℕ) (old : State) (result : Result (Unit {0}) RunError) (log : List Event) (patience : Option ℕ) (seat : SeatSeen) (made : TurnsSeen) (ran : RanList rules total old result log patience seat made) where
  pub list_extends : log ≡ old.log ++ since old.log log
  list_extends = ran_extends rules total old ran.general log patience seat made ran.ran

  pub list_patient : patience ≡ old.patience
  list_patient = ran_patient rules total old ran.general log patience seat made ran.ran

  pub list_asks_none : question_events (since old.log log) ≡ []
  list_asks_none = own_asks_none (since old.log log) (ran_own rules total old ran.general log patience seat made ran.ran)

  -- the sum of the turns that are left and of those that were made
  pub list_sum : made.left + made.used ≡ old.turns.left + old.turns.used
  list_sum =
      let m : TurnsMade old.turns made (since old.log log) = ran_turns rules total old ran.general log patience seat made ran.ran in
      let a : made.left + turns (since old.log log) ≡ old.turns.left = m.left in
      let b : made.used ≡ old.turns.used + turns (since old.log log) = m.used in
      omega arith

-- a run from a log on, to one that it added to and on a host of the same patience
from_part : (rules : Rules) (total : Option ℕ) (old : State) (result : Result (Unit {0}) RunError) (log : List Event) (patience : Option ℕ) (seat : SeatSeen) (made : TurnsSeen) → RanList rules total old result log patience seat made → RanList rules total old result (old.log ++ since old.log log) old.patience seat made
from_part rules total old result log patience seat made ran =
    subst (λ (p : Option ℕ). RanList rules total old result (old.log ++ since old.log log) p seat made) (list_patient rules total old result log patience seat made ran)
    (subst (λ (l : List Event). RanList rules total old result l patience seat made) (list_extends rules total old result log patience seat made ran) ran)

-- ---- a command alone

module _ (t : Terms) (p : Planned) (old new : List Event) (patience : Option ℕ) (x y : Means) (before behind : ℕ) where
  pub ran_one : (r : Result (Unit {0}) RunError) (s s' : SeatSeen) → (s.faults ≡ 0) × (s'.faults ≡ 0) → IfSome t.patience (λ most. 1 ≤ most) → RanList (alone_rules t p) (Some 1) (begins t old s (turns_at x before)) r new patience s' (turns_at y behind) → IsPrinted (alone_rules t p) nothing_kept r (since old new) → (y.faults ≡ x.faults) × (y.taken ≡ x.taken) × (y.load ≡ x.load) → RanOne t p (since old new) r x y
  ran_one r s s' sound least ran lines seat = record {
    log = old;
    before = before;
    behind = behind;
    old = s;
    new = s';
    sound = sound;
    least = least;
    run = from_part (alone_rules t p) (Some 1) (begins t old s (turns_at x before)) r new patience s' (turns_at y behind) ran;
    lines = lines;
    seat = seat;
  }

pub alone_done : (t : Terms) (p : Planned) (part : List Event) (x y : Means) → RanOne t p part (Ok tt) x y → Went t (RunsOne p ∷ []) part x y
alone_done t p part x y ran = went_one t (RunsOne p) part x y ran

pub alone_refused : (t : Terms) (p : Planned) (part : List Event) (x y : Means) (error : RunError) (e : ErrorSeen) → RanOne t p part (Err error) x y → (e ≡ run_error (p ∷ []) error) ⊎ (e ≡ no_memory) → Halted t None (RunsOne p ∷ []) part e x y
alone_refused t p part x y error e ran (inl is) = halted_at t None (RunsOne p) [] part e x y (error, (ran, inr is))
alone_refused t p part x y error e ran (inr memory) = halted_at t None (RunsOne p) [] part e x y (error, (ran, inl memory))

-- ---- a command that is tried

-- it asks nothing
pub tried_asks_none : (shows : Shows) (p : Planned) (refused : Bool) (part : List Event) → Tried (terms shows None None) p refused part → question_events part ≡ []
tried_asks_none shows p refused part d = sole_asks_none part (done_sole p refused part (done_of (terms shows None None) p part refused d))

pub broken_asks_none : (shows : Shows) (p : Planned) (part : List Event) (error : RunError) → is_refusal error ≡ false → IsSilentRun shows p (Err error) part → question_events part ≡ []
broken_asks_none shows p part error r h = sole_asks_none part (broken_sole p part (broken_of shows p part error r h))

pub cause_of : (p : Planned) (error : RunError) (e : ErrorSeen) → (e ≡ run_error (p ∷ []) error) ⊎ (e ≡ no_memory) → IsOf (run_error (p ∷ []) error) e
cause_of p error e (inl is) = inr is
cause_of p error e (inr memory) = inl memory

-- ---- commands beside each other

module _ (t : Terms) (ps : List Planned) (old new : List Event) (patience : Option ℕ) (x y : Means) (before behind : ℕ) where
  pub ran_all : (r : Result (Unit {0}) RunError) (held held' : ℕ) (total' : Option ℕ) → held ≡ 0 → held' ≡ 0 → IfSome t.patience (λ most. 1 ≤ most) → RanList (beside_rules t ps) t.total (begins t old (record (idle_seat t.total x) { held = held }) (turns_at x before)) r new patience (record (idle_seat total' y) { held = held' }) (turns_at y behind) → IsPrinted (beside_rules t ps) nothing_kept r (since old new) → RanAll t ps (since old new) r x y
  ran_all r held held' total' none none' least ran lines = record {
    log = old;
    before = before;
    behind = behind;
    least = least;
    run =
        subst (λ (k : ℕ). RanList (beside_rules t ps) t.total (begins t old (record (idle_seat t.total x) { held = k }) (turns_at x before)) r (old ++ since old new) t.patience (idle_seat t.total y) (turns_at y behind)) none
        (subst (λ (o : Option ℕ). RanList (beside_rules t ps) t.total (begins t old (record (idle_seat t.total x) { held = held }) (turns_at x before)) r (old ++ since old new) t.patience (idle_seat o y) (turns_at y behind))
        (ran_total (beside_rules t ps) t.total (begins t old (record (idle_seat t.total x) { held = held }) (turns_at x before)) ran.general new patience (record (idle_seat total' y) { held = held' }) (turns_at y behind) ran.ran)
        (subst (λ (k : ℕ). RanList (beside_rules t ps) t.total (begins t old (record (idle_seat t.total x) { held = held }) (turns_at x before)) r (old ++ since old new) t.patience (record (idle_seat total' y) { held = k }) (turns_at y behind)) none'
        (from_part (beside_rules t ps) t.total (begins t old (record (idle_seat t.total x) { held = held }) (turns_at x before)) r new patience (record (idle_seat total' y) { held = held' }) (turns_at y behind) ran)));
    lines = lines;
  }

pub together_done : (t : Terms) (ps : List Planned) (part : List Event) (x y : Means) → RanAll t ps part (Ok tt) x y → Went t (RunsAll ps ∷ []) part x y
together_done t ps part x y ran = went_one t (RunsAll ps) part x y ran

pub together_refused : (t : Terms) (ps : List Planned) (part : List Event) (x y : Means) (error : RunError) (e : ErrorSeen) → RanAll t ps part (Err error) x y → (e ≡ run_error ps error) ⊎ (e ≡ no_memory) → Halted t None (RunsAll ps ∷ []) part e x y
together_refused t ps part x y error e ran (inl is) = halted_at t None (RunsAll ps) [] part e x y (error, (ran, inr is))
together_refused t ps part x y error e ran (inr memory) = halted_at t None (RunsAll ps) [] part e x y (error, (ran, inl memory))
