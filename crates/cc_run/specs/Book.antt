-- What a run's marks say of its children, and what a run's answer says of its part.
use Rattle.std.specs.Prelude.{◌≡◌, ◌<◌, ◌+◌, ◌⊎◌, ◌==◌, ◌&&◌, not, length, map, take, drop, ℕ, List, [], ◌∷◌, ◌++◌, Bool, true, false, Some, Result, Ok, Err}
use Rattle.cc_host.specs.Command.{CommandSeen}
use Rattle.cc_host.specs.declared.event.Event.{Event}
use Rattle.cc_host.specs.declared.event.HostCall.{HostCall}
use Rattle.cc_host.specs.declared.event.HostCall.TheVariants.{Start, Turn}
use Rattle.cc_host.specs.declared.event.Role.{Role}
use Rattle.cc_run.specs.Follows.{Follows}
use Rattle.cc_run.specs.Listed.{BeganBelow}
use Rattle.cc_run.specs.Marks.{has_begun, has_ended, has_succeeded}
use Rattle.cc_run.specs.Paid.{PaidAnd}
use Rattle.cc_run.specs.Part.{started}
use Rattle.cc_run.specs.Plan.{Plan, next_place}
use Rattle.cc_run.specs.Planned.{asked}
use Rattle.cc_run.specs.Run.{Run}
use Rattle.cc_run.specs.Seat.{SeatSeen, IsStartError}
use Rattle.cc_run.specs.declared.error.RunError.{RunError}
use Rattle.cc_run.specs.declared.error.RunError.TheVariants.{ToolNotFound, StartFault, WaitFault, HostFault}
use Rattle.cc_run.specs.declared.mark.Mark.{Mark}
use Rattle.cc_run.specs.declared.planned.Planned.{Planned}
use Rattle.cc_run.specs.declared.planned.Shows.{Shows}

abbrev pub one_where : Bool → ℕ
one_where false = 0
one_where true = 1

-- how many children run for a place
abbrev pub at_place : ℕ → List (ℕ × ℕ) → ℕ
at_place p [] = 0
at_place p (c ∷ cs) = one_where (c.1 == p) + at_place p cs

-- a child runs exactly for each place that began and has not ended
pub record Tracks (r : Run) : Type 0 where
  pub runs : (p : ℕ) → at_place p r.live ≡ one_where (has_begun r.marks p && not (has_ended r.marks p))
  pub over : (p : ℕ) → has_begun r.marks p ≡ false → has_ended r.marks p ≡ false

-- what began and ended grew by marks that follow the plan
pub record Followed (plan : Plan) (r r' : Run) : Type 0 where
  pub marks : List Mark
  pub grew : r'.marks ≡ r.marks ++ marks
  pub follows : Follows plan r.marks marks
  pub tracks : Tracks r'

-- the missing commands of a part, by the answer
abbrev pub missing_in : List Planned → RunError → List (Role × CommandSeen)
missing_in cmds (ToolNotFound place) = map (λ p. (p.role, p.cmd)) (take 1 (drop place cmds))
missing_in cmds _ = []

abbrev pub missing_by : {T : Type 0} → List Planned → Result T RunError → List (Role × CommandSeen)
missing_by cmds (Ok _) = []
missing_by cmds (Err e) = missing_in cmds e

-- the faults of a part, by the answer
abbrev pub faults_in : RunError → List HostCall
faults_in (StartFault place) = Start ∷ []
faults_in WaitFault = Turn ∷ []
faults_in (HostFault call why) = call ∷ []
faults_in _ = []

abbrev pub faults_by : {T : Type 0} → Result T RunError → List HostCall
faults_by (Ok _) = []
faults_by (Err e) = faults_in e

-- Both counts of a seat rose by the starts and by what these carry. Only where the start of the next command was
-- refused, one token more may stand in them: that of the start.
abbrev pub IsPaid : {T : Type 0} → Plan → Run → Result T RunError → List Event → SeatSeen → SeatSeen → Type 0
IsPaid plan r (Ok _) part old new = PaidAnd 0 0 part old.taken old.load new.taken new.load
IsPaid plan r (Err e) part old new = PaidAnd 0 0 part old.taken old.load new.taken new.load
    ⊎ (((p : ℕ) × (next_place plan r.marks ≡ Some p)) × IsStartError e
    × PaidAnd 1 (length r.live + 1) part old.taken old.load new.taken new.load)

-- the commands of a list that were started are so many, from the first on, in order
pub record IsPrefix (shows : Shows) (cmds : List Planned) (marks : List Mark) (part : List Event) : Type 0 where
  pub count : ℕ
  pub began : BeganBelow count marks
  pub prefix : started part ≡ take count (asked shows cmds)

-- all commands of a list were started, in order, each ended with the status 0, and nothing runs
pub record IsAllWell (shows : Shows) (cmds : List Planned) (r : Run) (part : List Event) : Type 0 where
  pub all : started part ≡ asked shows cmds
  pub well : (p : ℕ) → p < length cmds → has_succeeded r.marks p ≡ true
  pub idle : r.live ≡ []
