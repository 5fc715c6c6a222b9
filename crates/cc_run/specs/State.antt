-- A run and all that it uses, and what happens to them.
use Rattle.std.specs.Prelude.{◌≡◌, ◌++◌, ℕ, List, length, Option, Result, Ok, Err}
use Rattle.cc_host.specs.declared.event.Event.{Event}
use Rattle.cc_run.specs.Children.{Kept, run_of}
use Rattle.cc_run.specs.Keeping.{TurnsMade}
use Rattle.cc_run.specs.Life.{LivesOn}
use Rattle.cc_run.specs.Outcome.{IsCause, Reason}
use Rattle.cc_run.specs.Part.{Along}
use Rattle.cc_run.specs.Patience.{Lasts}
use Rattle.cc_run.specs.Printing.{kept_from}
use Rattle.cc_run.specs.Rules.{Rules}
use Rattle.cc_run.specs.Seat.{SeatSeen, Pays, Spent}
use Rattle.cc_run.specs.declared.error.RunError.{RunError}
use Rattle.cc_run.specs.declared.mark.Mark.{Mark}
use Rattle.cc_run.specs.declared.planned.Turns.{Turns as TurnsSeen}

-- the log of the host and its patience, what is kept of the run, the seat, and the turns
pub record State : Type 0 where
  pub log : List Event
  pub patience : Option ℕ
  pub kept : Kept
  pub seat : SeatSeen
  pub turns : TurnsSeen

abbrev pub state : {X S : Type 0} → (X → List Event) → (X → Option ℕ) → (S → SeatSeen) → X → Kept → S → TurnsSeen
    → State
state log patience seen host kept seat turns =
    record { log = log host; patience = patience host; kept = kept; seat = seen seat; turns = turns }

-- The seat is one of the pool, it holds a token for each child that runs, and the queue was told what began and ended.
pub record Agrees {J S Q : Type 0} (fits : J → S → Type 0) (held : S → ℕ) (stands : Q → List Mark → Type 0)
    (jobs : J) (seat : S) (queue : Q) (kept : Kept) : Type 0 where
  pub fitting : fits jobs seat
  pub tokens : held seat ≡ length kept.children
  pub told : stands queue kept.marks

-- The run went on by these events, each of which is good.
pub record Works (rules : Rules) (total : Option ℕ) (old new : State) : Type 0 where
  pub part : List Event
  pub adds : new.log ≡ old.log ++ part
  pub patient : new.patience ≡ old.patience
  pub keeps : kept_from rules.plan old.kept part ≡ new.kept
  pub good : Along rules total (run_of old.kept) part
  pub pays : Pays rules.counted old.seat part new.seat
  pub made : TurnsMade old.turns new.turns part
  pub lasts : Lasts total old.patience old.log (run_of old.kept) part (run_of new.kept)
  pub lives : LivesOn old.log new.log

-- The run went on, and was then refused.
pub record Stops (rules : Rules) (total : Option ℕ) (old : State) (e : RunError) (new : State) : Type 0 where
  pub mid : State
  pub works : Works rules total old mid
  pub why : Reason rules.plan (run_of mid.kept) mid.turns.left e
  pub tail : List Event
  pub cause : IsCause rules.plan.cmds e tail
  pub adds : new.log ≡ mid.log ++ tail
  pub patient : new.patience ≡ mid.patience
  pub run : run_of new.kept ≡ run_of mid.kept
  pub spent : Spent rules.plan mid.kept.marks e mid.seat new.seat
  pub made : new.turns ≡ mid.turns

abbrev pub Steps : {T : Type 0} → Rules → Option ℕ → State → Result T RunError → State → Type 0
Steps rules total old (Ok _) new = Works rules total old new
Steps rules total old (Err e) new = Stops rules total old e new

-- the same, of a host, a run, a seat and turns before and after a call
abbrev pub Moves : {X S T : Type 0} → (X → List Event) → (X → Option ℕ) → (S → SeatSeen) → Rules → Option ℕ
    → X → Kept → S → TurnsSeen → Result T RunError → X → Kept → S → TurnsSeen → Type 0
Moves log patience seen rules total host kept seat turns result host' kept' seat' turns' =
    Steps rules total (state log patience seen host kept seat turns) result
    (state log patience seen host' kept' seat' turns')
