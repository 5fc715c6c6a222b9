use Rattle.std.proofs.Common.{ap, subst}
use Rattle.cc_host.specs.Probe.{IsTidy}
use Rattle.cc_hosts.specs.HostSeen.{HostSeen}
use Rattle.cc_hosts.proofs.process_host.ProcessHostHostReal.log.Goals as goal

pub returns-clause-tidy : goal.returns-clause-tidy
returns-clause-tidy g c = subst IsTidy (ap (λ (s : HostSeen). s.log) c.self.view_is) c.events.ensures.tidy
