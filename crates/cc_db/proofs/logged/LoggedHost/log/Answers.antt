use Rattle.std.proofs.Common.{subst}
use Rattle.cc_host.specs.Probe.{IsTidy}
use Rattle.cc_db.proofs.logged.LoggedHost.log.Goals as goal

pub returns-clause-tidy : goal.returns-clause-tidy
returns-clause-tidy g c = subst (λ h. IsTidy (g.H.Host.log h)) c.self.view_is c.log.ensures.tidy
