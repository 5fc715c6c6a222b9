-- How a part of a log is read, and what is promised of each event of a run while it goes on.
use Rattle.std.specs.Prelude.{◌≡◌, ◌≤◌, ◌<◌, ◌⊎◌, ℕ, ◌+◌, List, [], ◌∷◌, length, Option, None, Some, IfSome, true, sum_by, if◌then◌else◌}
use Rattle.std.specs.List.{flat_map, slice_get}
use Rattle.cc_host.specs.Command.{CommandSeen}
use Rattle.cc_host.specs.declared.event.Role.{Role}
use Rattle.cc_host.specs.declared.event.HostCall.{HostCall}
use Rattle.cc_host.specs.declared.event.Event.{Event}
use Rattle.cc_host.specs.declared.event.Event.TheVariants.{Started, Missing, Heard, Unread, Ended, Turn, Printed, Said, Fault, Abandoned}
use Rattle.cc_run.specs.Own.{is_run_line}
use Rattle.cc_run.specs.Plan.{Plan, next_place}
use Rattle.cc_run.specs.Planned.{Asked, asked_by}
use Rattle.cc_run.specs.Rules.{Rules}
use Rattle.cc_run.specs.Run.{Run, run_after}
use Rattle.cc_run.specs.declared.planned.Planned.{Planned}

abbrev pub started_of : Event → List Asked
started_of (Started id role cmd pipes held) = record { role = role; cmd = cmd; pipes = pipes } ∷ []
started_of _ = []

-- the commands that were started, in order
abbrev pub started : List Event → List Asked
started = flat_map started_of

abbrev pub missing_of : Event → List (Role × CommandSeen)
missing_of (Missing role cmd) = (role, cmd) ∷ []
missing_of _ = []

-- the commands whose program can't be found
abbrev pub missing : List Event → List (Role × CommandSeen)
missing = flat_map missing_of

abbrev pub fault_of : Event → List HostCall
fault_of (Fault call why) = call ∷ []
fault_of _ = []

abbrev pub faults : List Event → List HostCall
faults = flat_map fault_of

abbrev pub abandoned_of : Event → List ℕ
abandoned_of (Abandoned id) = id ∷ []
abandoned_of _ = []

abbrev pub abandoned : List Event → List ℕ
abandoned = flat_map abandoned_of

abbrev pub turns_of : Event → ℕ
turns_of (Turn count) = count
turns_of _ = 0

-- how many turns were made
abbrev pub turns : List Event → ℕ
turns = sum_by turns_of

-- What is started is the plan's next command, as it was asked for. The count that it carries is one more than the
-- children that run, and no more than the pool has tokens; without a token it is 0.
pub record StartsNext (rules : Rules) (total : Option ℕ) (r : Run) (asking : Asked) (held : ℕ) : Type 0 where
  pub place : ℕ
  pub next : next_place rules.plan r.marks ≡ Some place
  pub planned : Planned
  pub its : slice_get rules.plan.cmds place ≡ Some planned
  pub asks : asked_by rules.shows planned ≡ asking
  pub carries : held ≡ (if rules.counted then length r.live + 1 else 0)
  pub within : IfSome total (λ t. length r.live + 1 ≤ t)

-- where one caller owns the pool, a child runs, and either one for each token or nothing may be started
abbrev pub Busy : Plan → Option ℕ → Run → Type 0
Busy plan total r = IfSome total (λ t. (0 < length r.live) × ((length r.live ≡ t) ⊎ (next_place plan r.marks ≡ None)))

-- While a run goes on, the next command is started, children write and end, turns are made where the run is busy, and
-- lines and messages are printed and said. Nothing else is done.
abbrev pub Good : Rules → Option ℕ → Run → Event → Type 0
Good rules total r (Started id role cmd pipes held) =
    StartsNext rules total r (record { role = role; cmd = cmd; pipes = pipes }) held
Good rules total r (Heard id piece) = Unit {0}
Good rules total r (Unread id) = Unit {0}
Good rules total r (Ended id status) = Unit {0}
Good rules total r (Turn count) = Busy rules.plan total r
Good rules total r (Printed kind bytes) = is_run_line kind ≡ true
Good rules total r (Said message) = Unit {0}
Good rules total r _ = ⊥

-- so is each event, after those before it
abbrev pub Along : Rules → Option ℕ → Run → List Event → Type 0
Along rules total r [] = Unit {0}
Along rules total r (e ∷ es) = Good rules total r e × Along rules total (run_after rules.plan r e) es
