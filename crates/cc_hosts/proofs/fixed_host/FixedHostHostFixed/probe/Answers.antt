use Rattle.std.proofs.Common.{◌∙◌, refl}
use Rattle.cc_host.specs.Bench.{probe_after}
use Rattle.cc_hosts.proofs.FixedLemmas.{uncounted_given}
use Rattle.cc_hosts.proofs.fixed_host.FixedHostHostFixed.probe.Goals as goal

pub invariant_of-self : goal.invariant_of-self
invariant_of-self c = uncounted_given _ (probe_after c.self.inside.bench) c.self.inside.bench c.probe.new.self _ c.probe.ensures.answers refl ∙ c.self.invariant
