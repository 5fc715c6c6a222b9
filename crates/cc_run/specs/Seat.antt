-- What a run does to the counts of its seat.
use Rattle.std.specs.Prelude.{◌≡◌, ◌≤◌, ◌⊎◌, ℕ, ◌+◌, List, Option, Some, Bool, true, Result, Ok}
use Rattle.cc_jobs.specs.Seats.{Rose, UpBy}
use Rattle.cc_host.specs.declared.event.Event.{Event}
use Rattle.cc_run.specs.Paid.{starts, loads}
use Rattle.cc_run.specs.Plan.{Plan, next_place}
use Rattle.cc_run.specs.declared.error.RunError.{RunError}
use Rattle.cc_run.specs.declared.error.RunError.TheVariants.{ToolNotFound, StartFault, HostFault, JobFault, NoMemory}
use Rattle.cc_run.specs.declared.error.Step.{Step}
use Rattle.cc_run.specs.declared.error.Step.TheVariants.{Pending}
use Rattle.cc_run.specs.declared.mark.Mark.{Mark}

-- a seat: what it holds, the total of its pool where one caller owns it, its counts, and how often the pool failed it
pub record SeatSeen : Type 0 where
  pub held : ℕ
  pub total : Option ℕ
  pub taken : ℕ
  pub load : ℕ
  pub faults : ℕ

abbrev pub seen_by : {S : Type 0} → (S → ℕ) → (S → Option ℕ) → (S → ℕ) → (S → ℕ) → (S → ℕ) → S → SeatSeen
seen_by held total taken load faults seat = record {
  held = held seat;
  total = total seat;
  taken = taken seat;
  load = load seat;
  faults = faults seat;
}

-- the counts of a seat rose by the starts and, where these carry what is held, by what they carried
pub record Pays (counted : Bool) (old : SeatSeen) (part : List Event) (new : SeatSeen) : Type 0 where
  pub same_total : new.total ≡ old.total
  pub more_taken : UpBy old.taken (starts part) new.taken
  pub more_load : counted ≡ true → UpBy old.load (loads part) new.load
  pub later : old.faults ≤ new.faults

-- where no token came it was asked for in vain, and the count of that rose; it never falls
abbrev pub MissesBy : Result Step RunError → ℕ → ℕ → Type 0
MissesBy (Ok Pending) old new = (old ≤ new) × Rose old new
MissesBy _ old new = old ≤ new

-- tokens were given back, and none was taken
pub record Returned (old new : SeatSeen) : Type 0 where
  pub same_total : new.total ≡ old.total
  pub same_taken : new.taken ≡ old.taken
  pub same_load : new.load ≡ old.load
  pub later : old.faults ≤ new.faults

-- a start can end a run so: its program is missing, it or its line is refused, or memory is wanted
abbrev pub IsStartError : RunError → Type 0
IsStartError (ToolNotFound place) = Unit {0}
IsStartError (StartFault place) = Unit {0}
IsStartError (HostFault call why) = Unit {0}
IsStartError NoMemory = Unit {0}
IsStartError _ = ⊥

-- where the pool failed, the count of its faults rose
abbrev pub FaultsBy : RunError → ℕ → ℕ → Type 0
FaultsBy JobFault old new = Rose old new
FaultsBy _ old new = Unit {0}

-- What a refusal does to a seat: it keeps its tokens. Where the start of the next command was refused, the token of
-- that start stands in both counts.
pub record Spent (plan : Plan) (marks : List Mark) (e : RunError) (old new : SeatSeen) : Type 0 where
  pub same_held : new.held ≡ old.held
  pub same_total : new.total ≡ old.total
  pub counts : ((new.taken ≡ old.taken) × (new.load ≡ old.load))
      ⊎ (((p : ℕ) × (next_place plan marks ≡ Some p)) × IsStartError e
      × UpBy old.taken 1 new.taken × UpBy old.load (old.held + 1) new.load)
  pub later : old.faults ≤ new.faults
  pub by_fault : FaultsBy e old.faults new.faults
