use Rattle.std.proofs.Common.{◌≡◌, ◌++◌, take}
use Rattle.cc_run.specs.Prints.{prints}
use Rattle.cc_run.proofs.print.print_all.Given as goal

-- the lines so far are printed
abbrev pub invariant-loop-line : goal.invariant-loop-line
invariant-loop-line g l = record {
  log : g.H.Host.log l.host ≡ g.H.Host.log l.fn.host ++ prints (take l.line-index l.lines);
  patient : g.H.Host.patience l.host ≡ g.H.Host.patience l.fn.host;
}
