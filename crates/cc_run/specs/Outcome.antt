-- Why a run ended, and what its answer says.
use Rattle.std.specs.Prelude.{◌≡◌, ◌⊎◌, ℕ, List, [], ◌∷◌, ◌++◌, Result, Ok, Err, Option, Some, None}
use Rattle.std.specs.List.{slice_get}
use Rattle.cc_host.specs.declared.event.Status.{Status}
use Rattle.cc_host.specs.declared.event.HostCall.{HostCall}
use Rattle.cc_host.specs.declared.event.HostCall.TheVariants.{Start, Turn, Print, Say}
use Rattle.cc_host.specs.declared.event.HostError.{HostError}
use Rattle.cc_host.specs.declared.event.HostError.TheVariants.{Fault, NoMemory as WantsMemory}
use Rattle.cc_host.specs.declared.event.Event.{Event}
use Rattle.cc_host.specs.declared.event.Event.TheVariants.{Missing, Fault as Faulted}
use Rattle.cc_host.specs.declared.event.Why.{Why}
use Rattle.cc_run.specs.Marks.{last_failure}
use Rattle.cc_run.specs.Plan.{Plan, next_place}
use Rattle.cc_run.specs.Run.{Run}
use Rattle.cc_run.specs.declared.error.RunError.{RunError}
use Rattle.cc_run.specs.declared.error.RunError.TheVariants.{ToolNotFound, Failed, StartFault, WaitFault, HostFault, TurnsSpent, NoMemory}
use Rattle.cc_run.specs.declared.mark.Mark.{Mark}
use Rattle.cc_run.specs.declared.planned.Planned.{Planned}

-- a line was to be printed, or a message to be said
abbrev pub IsNotice : HostCall → Type 0
IsNotice call = (call ≡ Print) ⊎ (call ≡ Say)

abbrev pub start_error : ℕ → HostError → RunError
start_error place (Fault call why) = StartFault place
start_error place WantsMemory = NoMemory

abbrev pub turn_error : HostError → RunError
turn_error (Fault call why) = WaitFault
turn_error WantsMemory = NoMemory

abbrev pub print_error : HostError → RunError
print_error (Fault call why) = HostFault call why
print_error WantsMemory = NoMemory

-- the one event that tells why a run ended, where there is one: the missing command, or the fault
abbrev pub IsCause : List Planned → RunError → List Event → Type 0
IsCause cmds (ToolNotFound place) part = (p : Planned)
    × ((slice_get cmds place ≡ Some p) × (part ≡ Missing p.role p.cmd ∷ []))
IsCause cmds (StartFault place) part = (why : Why) × (part ≡ Faulted Start why ∷ [])
IsCause cmds WaitFault part = (why : Why) × (part ≡ Faulted Turn why ∷ [])
IsCause cmds (HostFault call why) part = part ≡ Faulted call why ∷ []
IsCause cmds _ part = part ≡ []

-- nothing runs, and nothing may be started
abbrev pub IsSettled : Plan → Run → Type 0
IsSettled plan r = (r.live ≡ []) × (next_place plan r.marks ≡ None)

-- What a refusal says of the run: the command that could not be started is the next; turns are spent where none was
-- left though a command has no end, or may be started; a failed command ends no run.
abbrev pub Reason : Plan → Run → ℕ → RunError → Type 0
Reason plan r left (ToolNotFound place) = next_place plan r.marks ≡ Some place
Reason plan r left (StartFault place) = next_place plan r.marks ≡ Some place
Reason plan r left (HostFault call why) = IsNotice call
Reason plan r left TurnsSpent = (left ≡ 0) × (IsSettled plan r → ⊥)
Reason plan r left (Failed place status) = ⊥
Reason plan r left _ = Unit {0}

-- no turn was made: none was left, or the host couldn't
abbrev pub IsUnturned : List Event → List Event → RunError → Type 0
IsUnturned old new TurnsSpent = new ≡ old
IsUnturned old new WaitFault = (why : Why) × (new ≡ old ++ Faulted Turn why ∷ [])
IsUnturned old new NoMemory = new ≡ old
IsUnturned old new _ = ⊥

-- the answer by a failure
abbrev pub by_failure : Option (ℕ × Status) → Result (Unit {0}) RunError
by_failure None = Ok tt
by_failure (Some f) = Err (Failed f.0 f.1)

-- a list's answer by that of its run as a queue
abbrev pub list_result : Result (List Mark) RunError → Result (Unit {0}) RunError
list_result (Ok marks) = by_failure (last_failure marks)
list_result (Err e) = Err e
