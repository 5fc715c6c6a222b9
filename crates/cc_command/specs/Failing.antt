-- The command that failed last, by the events of a log.
use Rattle.std.specs.Prelude.{◌≡◌, ◌<◌, ◌==◌, ℕ, List, [], ◌∷◌, ◌++◌, length, Option, Some, None, if◌then◌else◌}
use Rattle.std.specs.List.{remove, slice_index_or}
use Rattle.cc_host.specs.Command.{CommandSeen}
use Rattle.cc_host.specs.Status.{is_success}
use Rattle.cc_host.specs.declared.event.Event.{Event}
use Rattle.cc_host.specs.declared.event.Event.TheVariants.{Listed, Started, Ended}
use Rattle.cc_host.specs.declared.event.Status.{Status}
use Rattle.cc_command.specs.declared.failing.Failure.{Failure}

-- commands, each behind the number of its child
abbrev pub Running : Type 0
Running = List (ℕ × CommandSeen)

-- the commands that run, and the last that ended with another status than 0
pub record Watched : Type 0 where
  pub running : Running
  pub last : Option Failure

abbrev pub unwatched : Watched
unwatched = record { running = []; last = None }

-- the command of the first child of that number
abbrev pub command_of : ℕ → Running → Option CommandSeen
command_of id [] = None
command_of id (c ∷ cs) = if c.0 == id then Some c.1 else command_of id cs

-- the others
abbrev pub without : ℕ → Running → Running
without id [] = []
without id (c ∷ cs) = if c.0 == id then cs else c ∷ without id cs

-- none of these is a child of that number
abbrev pub IsNone : ℕ → Running → Type 0
IsNone id cs = (command_of id cs ≡ None) × (without id cs ≡ cs)

-- the first child of that number stands there
pub record IsFirst (id : ℕ) (cs : Running) (at : ℕ) : Type 0 where
  pub below : at < length cs
  pub command : (d : ℕ × CommandSeen) → command_of id cs ≡ Some (slice_index_or cs at d).1
  pub rest : without id cs ≡ remove cs at

-- the last failure, after a child of this command ended, or somebody else's
abbrev pub failure_by : Status → Option CommandSeen → Option Failure → Option Failure
failure_by status None last = last
failure_by status (Some cmd) last = if is_success status then last else Some (record { status = status; cmd = cmd })

-- where the variables are listed, what was before counts no more
abbrev pub watched : Watched → Event → Watched
watched w (Listed vars) = unwatched
watched w (Started id role cmd pipes held) = record w { running = w.running ++ (id, cmd) ∷ [] }
watched w (Ended id status) =
    record { running = without id w.running; last = failure_by status (command_of id w.running) w.last }
watched w _ = w

abbrev pub watched_from : Watched → List Event → Watched
watched_from w [] = w
watched_from w (e ∷ es) = watched_from (watched w e) es

-- the command that failed last, of those that were started since the variables were listed
abbrev pub failed_last : List Event → Option Failure
failed_last log = (watched_from unwatched log).last
