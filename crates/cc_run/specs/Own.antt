-- The events of a run.
use Rattle.std.specs.Prelude.{◌≡◌, Bool, true, false, List}
use Rattle.std.specs.List.{list_all}
use Rattle.cc_host.specs.declared.event.LineKind.{LineKind}
use Rattle.cc_host.specs.declared.event.LineKind.TheVariants.{Stderr, Debug, Warning}
use Rattle.cc_host.specs.declared.event.HostCall.TheVariants.{Start, Turn as Turning, Print, Say}
use Rattle.cc_host.specs.declared.event.Event.{Event}
use Rattle.cc_host.specs.declared.event.Event.TheVariants.{Started, Missing, Ended, Abandoned, Heard, Unread, Turn, Printed, Said, Fault}
use Rattle.cc_run.specs.declared.print.Notice.{Notice}
use Rattle.cc_run.specs.declared.print.Notice.TheVariants.{Shown, Told}

-- a line that a run prints: of a child's standard error, for debugging, or a warning
abbrev pub is_run_line : LineKind → Bool
is_run_line (Stderr id) = true
is_run_line Debug = true
is_run_line Warning = true
is_run_line _ = false

-- an event of a run: of its commands, its turns, its lines and its messages, or the fault of one of these
abbrev pub is_of_run : Event → Bool
is_of_run (Started id role cmd pipes held) = true
is_of_run (Missing role cmd) = true
is_of_run (Ended id status) = true
is_of_run (Abandoned id) = true
is_of_run (Heard id bytes) = true
is_of_run (Unread id) = true
is_of_run (Turn count) = true
is_of_run (Printed kind bytes) = is_run_line kind
is_of_run (Said message) = true
is_of_run (Fault Start why) = true
is_of_run (Fault Turning why) = true
is_of_run (Fault Print why) = true
is_of_run (Fault Say why) = true
is_of_run _ = false

-- a line that a run prints, or a message
abbrev pub is_run_notice : Notice → Bool
is_run_notice (Shown kind bytes) = is_run_line kind
is_run_notice (Told message) = true

-- lines that a run prints, and messages
abbrev pub AreRunLines : List Notice → Type 0
AreRunLines lines = list_all is_run_notice lines ≡ true
