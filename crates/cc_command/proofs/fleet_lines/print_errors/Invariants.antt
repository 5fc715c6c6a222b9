use Rattle.std.proofs.Common.{◌≡◌, ◌++◌, [], take}
use Rattle.cc_host.specs.Call.{part}
use Rattle.cc_tool.specs.Asked.{question_events}
use Rattle.cc_command.specs.Fleets.{PrintsEach}
use Rattle.cc_command.proofs.fleet_lines.print_errors.Given as goal

-- the lines so far were printed
abbrev pub invariant-loop-error : goal.invariant-loop-error
invariant-loop-error g l = record {
  extends : g.H.Host.log l.host ≡ g.H.Host.log l.fn.host ++ part g.H.Host.log l.fn.host l.host;
  quiet : question_events (part g.H.Host.log l.fn.host l.host) ≡ [];
  printed : PrintsEach (take l.error-index l.errors) (part g.H.Host.log l.fn.host l.host);
}
