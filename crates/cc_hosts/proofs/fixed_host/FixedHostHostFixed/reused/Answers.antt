use Rattle.std.proofs.Common.{◌∙◌, refl}
use Rattle.cc_hosts.proofs.FixedLemmas.{uncounted_given}
use Rattle.cc_hosts.proofs.fixed_host.FixedHostHostFixed.reused.Goals as goal

pub invariant_of-self : goal.invariant_of-self
invariant_of-self c = uncounted_given _ c.self.inside.bench c.self.inside.bench c.reused.new.self _ c.reused.ensures.answers refl ∙ c.self.invariant
