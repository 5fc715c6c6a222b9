-- The errors of a run that ended without success.
use Rattle.std.specs.Prelude.{ℕ, List, [], Option, Some, None, codes, slice_get}
use Rattle.std.specs.Option.{option_map}
use Rattle.cc_host.specs.Command.{CommandSeen}
use Rattle.cc_build.specs.declared.error.ErrorKind.TheVariants.{IOError, ToolExecError, TurnsSpent as SpendsTurns}
use Rattle.cc_build.specs.Error.{ErrorSeen, no_memory}
use Rattle.cc_build.specs.Stop.{missing_error, failed_error, unstarted_error, fault_error}
use Rattle.cc_run.specs.declared.error.RunError.{RunError}
use Rattle.cc_run.specs.declared.error.RunError.TheVariants.{ToolNotFound, Failed, StartFault, WaitFault, HostFault, JobFault, TurnsSpent, NoMemory}
use Rattle.cc_run.specs.declared.planned.Planned.{Planned}

-- the command at a place of the list
abbrev pub command_at : List Planned → ℕ → Option CommandSeen
command_at cmds place = option_map (λ p. p.cmd) (slice_get cmds place)

-- the error of a command that is there
abbrev pub error_of : (CommandSeen → ErrorSeen) → Option CommandSeen → ErrorSeen
error_of error (Some cmd) = error cmd
error_of error None = no_memory

-- the error of a run's refusal, which names the command at its place
abbrev pub run_error : List Planned → RunError → ErrorSeen
run_error cmds (ToolNotFound place) = error_of missing_error (command_at cmds place)
run_error cmds (Failed place status) = error_of (failed_error status) (command_at cmds place)
run_error cmds (StartFault place) = error_of unstarted_error (command_at cmds place)
run_error cmds WaitFault =
    record { kind = ToolExecError; subject = []; message = codes "failed to wait for running commands" }
run_error cmds (HostFault call why) = fault_error call why []
run_error cmds JobFault = record { kind = IOError; subject = []; message = codes "no job token could be asked for" }
run_error cmds TurnsSpent = record { kind = SpendsTurns; subject = []; message = codes "turns spent" }
run_error cmds NoMemory = no_memory
