use Rattle.std.proofs.Common.{◌≡◌}
use Rattle.cc_tool.specs.Tempfile.{AllTaken}
use Rattle.cc_tool.proofs.files.NamedTempfile.create.Given as goal

abbrev pub invariant-loop-tries : goal.invariant-loop-tries
invariant-loop-tries g l = record {
  taken : AllTaken l.dir l.suffix (g.H.Host.log l.fn.host) (g.H.Host.log l.host) l.tries;
  patient : g.H.Host.patience l.host ≡ g.H.Host.patience l.fn.host;
}
