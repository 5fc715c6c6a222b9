use Rattle.std.proofs.Common.{ap, subst}
use Rattle.cc_host.specs.Bench.{BenchSeen}
use Rattle.cc_host.specs.Probe.{IsTidy}
use Rattle.cc_hosts.proofs.plain.PlainHostHostBench.log.Goals as goal

pub returns-clause-tidy : goal.returns-clause-tidy
returns-clause-tidy c = subst IsTidy (ap (λ (s : BenchSeen). s.log) c.self.view_is) c.log.ensures.tidy
