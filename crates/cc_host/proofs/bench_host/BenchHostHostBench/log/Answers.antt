use Rattle.std.proofs.Common.{ap, subst}
use Rattle.cc_host.specs.Bench.{BenchSeen}
use Rattle.cc_host.specs.Probe.{IsTidy}
use Rattle.cc_host.proofs.ScriptLemmas.{patience_least}
use Rattle.cc_host.proofs.bench_host.BenchHostHostBench.log.Goals as goal

pub returns-clause-tidy : goal.returns-clause-tidy
returns-clause-tidy c = subst IsTidy (ap (λ (s : BenchSeen). s.log) c.self.view_is) c.events.ensures.tidy

pub returns-clause-least : goal.returns-clause-least
returns-clause-least c = patience_least c.args.self.now.scripts
