use Rattle.std.proofs.Common.{take}
use Rattle.cc_host.specs.Call.{part}
use Rattle.cc_build.specs.Kept.{Aside}
use Rattle.cc_command.proofs.ShowLaws.{ShownSo}
use Rattle.cc_command.proofs.lines.print_lines.Given as goal

-- the lines so far were printed
abbrev pub invariant-loop-line : goal.invariant-loop-line
invariant-loop-line g l =
    record {
      aside : Aside g.H.Host.log g.H.Host.patience l.fn.host l.host;
      shown : ShownSo (take l.line-index l.lines) (part g.H.Host.log l.fn.host l.host);
    }
