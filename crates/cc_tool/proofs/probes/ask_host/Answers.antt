use Rattle.std.proofs.Common.{sym}
use Rattle.cc_host.specs.Call.{part}
use Rattle.cc_tool.proofs.OwnLemmas.{bare_needed}
use Rattle.cc_tool.proofs.probes.ask_host.Goals as goal

pub returns-in-Some-clause-bare : goal.returns-in-Some-clause-bare
returns-in-Some-clause-bare g c = bare_needed c.args.q.now c.in-Some.kind (part g.H.Host.log c.args.host.now c.ask_with_files.new.host) (sym c.in-Some.ensures)
