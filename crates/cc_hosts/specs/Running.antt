-- The processes that run as children, and what is noted of their ends.
use Rattle.std.specs.Prelude.{Option, Some, None, Result, Ok, Err}
use Rattle.std.specs.Process.{exit_code}
use Rattle.std.specs.declared.process.ExitStatus.{ExitStatus}
use Rattle.cc_host.specs.declared.event.Status.{Status}
use Rattle.cc_host.specs.declared.event.Status.TheVariants.{NoCode}
use Rattle.cc_hosts.specs.Child.{status_of}

-- How a process ended, by what asking for it gave, or none where it runs on. One whose end can't be learned ended without a code.
abbrev pub ended_by : {E : Type 0} → Result (Option ExitStatus) E → Option Status
ended_by (Ok None) = None
ended_by (Ok (Some status)) = Some (status_of (exit_code status))
ended_by (Err _) = Some NoCode
