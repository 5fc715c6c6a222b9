-- What a whole run leaves.
use Rattle.std.specs.Prelude.{◌≡◌, ◌++◌, ℕ, List, [], length, Option, Some, Result, Ok, Err}
use Rattle.cc_host.specs.declared.event.Event.{Event}
use Rattle.cc_run.specs.Children.{nothing_kept, run_of}
use Rattle.cc_run.specs.Outcome.{IsCause, IsSettled, Reason, list_result}
use Rattle.cc_run.specs.Rules.{Rules}
use Rattle.cc_run.specs.Run.{gone}
use Rattle.cc_run.specs.Seat.{SeatSeen, Returned, Spent}
use Rattle.cc_run.specs.State.{State, Works, state}
use Rattle.cc_run.specs.declared.error.RunError.{RunError}
use Rattle.cc_run.specs.declared.mark.Mark.{Mark}
use Rattle.cc_run.specs.declared.planned.Turns.{Turns as TurnsSeen}

-- a run that went well is settled, and answers what began and ended; else there is a reason
abbrev pub EndsBy : Rules → State → Result (List Mark) RunError → List Event → Type 0
EndsBy rules done (Ok marks) tail = IsSettled rules.plan (run_of done.kept) × (marks ≡ done.kept.marks) × (tail ≡ [])
EndsBy rules done (Err e) tail = Reason rules.plan (run_of done.kept) done.turns.left e × IsCause rules.plan.cmds e tail

-- what a refusal did to the seat before its tokens were given back
abbrev pub SeatBy : Rules → State → Result (List Mark) RunError → SeatSeen → Type 0
SeatBy rules done (Ok _) seat = Returned done.seat seat
SeatBy rules done (Err e) seat = Spent rules.plan done.kept.marks e done.seat seat

-- The run went on by good events to its end. From there on the log has the one event that tells why it ended, where
-- there is one, and the children that were abandoned. Then the seat holds nothing.
pub record RanAll (rules : Rules) (total : Option ℕ) (old : State) (result : Result (List Mark) RunError)
    (log : List Event) (patience : Option ℕ)
    (seat : SeatSeen) (turns : TurnsSeen) : Type 0 where
  pub done : State
  pub works : Works rules total old done
  pub holds : done.seat.held ≡ length done.kept.children
  pub tail : List Event
  pub ends : EndsBy rules done result tail
  pub adds : log ≡ done.log ++ (tail ++ gone (run_of done.kept).live)
  pub patient : patience ≡ done.patience
  pub mid : SeatSeen
  pub seat_by : SeatBy rules done result mid
  pub back : Returned mid seat
  pub empty : seat.held ≡ 0
  pub made : turns ≡ done.turns

-- the same, of a host, a seat and turns before and after a call in which a queue was run from its start
abbrev pub HasRun : {X S : Type 0} → (X → List Event) → (X → Option ℕ) → (S → SeatSeen) → Rules → Option ℕ
    → X → S → TurnsSeen → Result (List Mark) RunError → X → S → TurnsSeen → Type 0
HasRun log patience seen rules total host seat turns result host' seat' turns' =
    RanAll rules total (state log patience seen host nothing_kept seat turns) result (log host') (patience host')
    (seen seat') turns'

-- A list was run as a queue, and its answer is by that run's.
pub record RanList (rules : Rules) (total : Option ℕ) (old : State) (result : Result (Unit {0}) RunError)
    (log : List Event) (patience : Option ℕ)
    (seat : SeatSeen) (turns : TurnsSeen) : Type 0 where
  pub general : Result (List Mark) RunError
  pub answer : result ≡ list_result general
  pub ran : RanAll rules total old general log patience seat turns

abbrev pub HasRunList : {X S : Type 0} → (X → List Event) → (X → Option ℕ) → (S → SeatSeen) → Rules → Option ℕ
    → X → S → TurnsSeen → Result (Unit {0}) RunError → X → S → TurnsSeen → Type 0
HasRunList log patience seen rules total host seat turns result host' seat' turns' =
    RanList rules total (state log patience seen host nothing_kept seat turns) result (log host') (patience host')
    (seen seat') turns'

-- one command was run without a token, as a list of one over a pool of one, which never fails
abbrev pub HasRunAlone : {X : Type 0} → (X → List Event) → (X → Option ℕ) → Rules → X → TurnsSeen
    → Result (Unit {0}) RunError → X → TurnsSeen → Type 0
HasRunAlone log patience rules host turns result host' turns' = (seat seat' : SeatSeen)
    × ((seat.faults ≡ 0) × (seat'.faults ≡ 0) × RanList rules (Some 1)
    (record { log = log host; patience = patience host; kept = nothing_kept; seat = seat; turns = turns })
    result (log host') (patience host') seat' turns')
