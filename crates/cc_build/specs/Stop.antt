-- The errors of events that end a run, with the texts of their messages.
use Rattle.std.specs.Prelude.{ℕ, List, [], ◌∷◌, ◌++◌, Option, Some, None, codes}
use Rattle.cc_text.specs.Quoted.{quoted}
use Rattle.cc_host.specs.Command.{CommandSeen}
use Rattle.cc_host.specs.CommandLine.{command_line}
use Rattle.cc_host.specs.Part.{Step}
use Rattle.cc_host.specs.Part.Step.{Runs, Makes, Removes, Writes, Copies, Finds, Says, Prints, Lists}
use Rattle.cc_host.specs.declared.event.Event.{Event}
use Rattle.cc_host.specs.declared.event.Event.TheVariants.{Ran, Missing, Fault}
use Rattle.cc_host.specs.declared.event.HostCall.{HostCall}
use Rattle.cc_host.specs.declared.event.HostCall.TheVariants.{Start, Turn, Output, Probe, MakeDir, CreateProbe, Write, Copy, Remove, CurrentDir, Print, Say, Vars}
use Rattle.cc_host.specs.declared.event.HostError.{HostError}
use Rattle.cc_host.specs.declared.event.HostError.TheVariants.{Fault as Faulted, NoMemory as WantsMemory}
use Rattle.cc_host.specs.declared.event.Status.{Status}
use Rattle.cc_host.specs.declared.event.Why.{Why}
use Rattle.cc_host.specs.declared.event.Why.TheVariants.{NotFound, Denied, Exists, Other}
use Rattle.cc_build.specs.declared.error.ErrorKind.TheVariants.{IOError, ToolExecError, ToolNotFound}
use Rattle.cc_build.specs.Error.{ErrorSeen, no_memory}
use Rattle.cc_run.specs.Texts.{failed_text}

abbrev pub call_name : HostCall → List ℕ
call_name Start = codes "start"
call_name Turn = codes "turn"
call_name Output = codes "output"
call_name Probe = codes "probe"
call_name (MakeDir scope) = codes "make dir"
call_name CreateProbe = codes "create probe"
call_name Write = codes "write"
call_name Copy = codes "copy"
call_name Remove = codes "remove"
call_name CurrentDir = codes "current dir"
call_name Print = codes "print"
call_name Say = codes "say"
call_name Vars = codes "vars"

abbrev pub why_name : Why → List ℕ
why_name NotFound = codes "not found"
why_name Denied = codes "denied"
why_name Exists = codes "exists"
why_name Other = codes "other"

-- the program can't be found
unfoldable pub missing_error : CommandSeen → ErrorSeen
missing_error cmd =
    record { kind = ToolNotFound; subject = cmd.program; message = codes "failed to find tool " ++ quoted cmd.program }

-- the command ended with another status than 0
unfoldable pub failed_error : Status → CommandSeen → ErrorSeen
failed_error status cmd = record { kind = ToolExecError; subject = cmd.program; message = failed_text status cmd }

-- the host couldn't run the command
unfoldable pub unstarted_error : CommandSeen → ErrorSeen
unstarted_error cmd =
    record {
      kind = ToolExecError;
      subject = cmd.program;
      message = codes "command " ++ command_line cmd ++ codes " failed to start";
    }

-- another call of the host faulted
unfoldable pub fault_error : HostCall → Why → List ℕ → ErrorSeen
fault_error call why subject =
    record { kind = IOError; subject = subject; message = call_name call ++ codes " failed: " ++ why_name why }

-- the error of what the host answered in place of a step's end
abbrev pub host_error : HostError → List ℕ → ErrorSeen
host_error (Faulted call why) subject = fault_error call why subject
host_error WantsMemory subject = no_memory

-- the error of an event that refused a step
abbrev pub stop_error : Step → Event → ErrorSeen
stop_error (Runs role cmd) (Ran r c pipes status out err) = failed_error status cmd
stop_error (Runs role cmd) (Missing r c) = missing_error cmd
stop_error (Runs role cmd) (Fault call why) = unstarted_error cmd
stop_error (Makes scope path) (Fault call why) = fault_error call why path
stop_error (Removes path) (Fault call why) = fault_error call why path
stop_error (Writes path bytes) (Fault call why) = fault_error call why path
stop_error (Copies from to) (Fault call why) = fault_error call why to
stop_error (Finds path) (Fault call why) = fault_error call why []
stop_error (Says message) (Fault call why) = fault_error call why []
stop_error (Prints kind bytes) (Fault call why) = fault_error call why []
stop_error Lists (Fault call why) = fault_error call why []
stop_error _ _ = no_memory

-- the error of the one event that ended a run, where these steps were left
abbrev pub stopped_by : List Step → List Event → Option ErrorSeen
stopped_by (step ∷ steps) (event ∷ []) = Some (stop_error step event)
stopped_by _ _ = None
