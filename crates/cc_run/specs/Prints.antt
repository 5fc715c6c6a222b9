-- What a part says of lines that were to be printed, and of messages that were to be said.
use Rattle.std.specs.Prelude.{◌≡◌, ◌<◌, ◌≤◌, ◌⊎◌, ℕ, List, [], ◌∷◌, ◌++◌, length, map, take, Result, Ok, Err}
use Rattle.cc_host.specs.declared.event.Event.{Event}
use Rattle.cc_host.specs.declared.event.Event.TheVariants.{Printed, Said, Fault}
use Rattle.cc_run.specs.Outcome.{IsNotice}
use Rattle.cc_run.specs.declared.error.RunError.{RunError}
use Rattle.cc_run.specs.declared.error.RunError.TheVariants.{HostFault, NoMemory}
use Rattle.cc_run.specs.declared.print.Notice.{Notice}
use Rattle.cc_run.specs.declared.print.Notice.TheVariants.{Shown, Told}

abbrev pub print_of : Notice → Event
print_of (Shown kind bytes) = Printed kind bytes
print_of (Told message) = Said message

-- these lines and messages, printed and said in order
abbrev pub prints : List Notice → List Event
prints = map print_of

-- a refused one leaves its fault, and nothing where memory was refused
abbrev pub print_fault : RunError → List Event
print_fault (HostFault call why) = Fault call why ∷ []
print_fault _ = []

-- one of these was printed or said, or refused
abbrev pub IsGiven : {T : Type 0} → Notice → Result T RunError → List Event → Type 0
IsGiven notice (Ok _) part = part ≡ print_of notice ∷ []
IsGiven notice (Err e) part = part ≡ print_fault e

-- all of these were printed and said, or the first ones and then one was refused
abbrev pub ArePrinted : {T : Type 0} → List Notice → Result T RunError → List Event → Type 0
ArePrinted lines (Ok _) part = part ≡ prints lines
ArePrinted lines (Err e) part = (count : ℕ) × ((count ≤ length lines) × ((e ≡ NoMemory) ⊎ (count < length lines))
    × (part ≡ prints (take count lines) ++ print_fault e))

-- the refusals of a print and of a message
abbrev pub IsPrintError : RunError → Type 0
IsPrintError (HostFault call why) = IsNotice call
IsPrintError NoMemory = Unit {0}
IsPrintError _ = ⊥
