use Rattle.cc_tool.proofs.OwnLemmas.{bare_part, bare_probed}
use Rattle.cc_host.specs.Call.{part}
use Rattle.cc_tool.proofs.UsedLemmas.{used_always, used_since, used_probed}
use Rattle.cc_tool.proofs.probes.ask_bare.Goals as goal

pub returns-clause-bare : goal.returns-clause-bare
returns-clause-bare g c = bare_part c.args.q.now _ _ _ c.probe.ensures.adds.1 (bare_probed c.args.q.now _ c.probe.ensures.adds.0 c.probe.result)

pub returns-clause-used : goal.returns-clause-used
returns-clause-used g c = used_always c.probe.result (part g.H.Host.log c.args.host.now c.probe.new.self) (used_since (g.H.Host.log c.args.host.now) (g.H.Host.log c.probe.new.self) _ c.probe.ensures.adds.1 (used_probed c.args.q.now _ c.probe.ensures.adds.0 c.probe.result))
