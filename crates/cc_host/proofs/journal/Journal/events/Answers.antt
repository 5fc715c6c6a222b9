use Rattle.std.proofs.Common.{flat_map, ap, subst}
use Rattle.cc_host.specs.Event.{apart}
use Rattle.cc_host.specs.Journal.{JournalSeen}
use Rattle.cc_host.specs.Probe.{IsTidy}
use Rattle.cc_host.proofs.JournalLemmas.{kept_tidy}
use Rattle.cc_host.proofs.journal.Journal.events.Goals as goal

pub returns-clause-tidy : goal.returns-clause-tidy
returns-clause-tidy c = subst IsTidy (ap (λ (j : JournalSeen). j.log) c.self.view_is) (kept_tidy (flat_map apart c.self.inside.events.items) c.self.inside.probes.items c.self.invariant.kept)
