use Rattle.std.proofs.Common.{ap, subst}
use Rattle.cc_host.specs.ChildLog.{ChildLogSeen}
use Rattle.cc_host.specs.Probe.{IsTidy}
use Rattle.cc_host.proofs.child_log.ChildLog.events.Goals as goal

pub returns-clause-tidy : goal.returns-clause-tidy
returns-clause-tidy c = subst IsTidy (ap (λ (s : ChildLogSeen). s.log) c.self.view_is) c.events.ensures.tidy
