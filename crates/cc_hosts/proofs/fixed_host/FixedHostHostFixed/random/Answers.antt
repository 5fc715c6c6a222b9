use Rattle.std.proofs.Common.{◌∙◌, refl, drop}
use Rattle.cc_hosts.proofs.FixedLemmas.{uncounted_given}
use Rattle.cc_hosts.proofs.fixed_host.FixedHostHostFixed.random.Goals as goal

pub invariant_of-self : goal.invariant_of-self
invariant_of-self c = uncounted_given _ (record c.self.inside.bench { words = drop 1 c.self.inside.bench.words }) c.self.inside.bench c.random.new.self _ c.random.ensures.answers refl ∙ c.self.invariant
