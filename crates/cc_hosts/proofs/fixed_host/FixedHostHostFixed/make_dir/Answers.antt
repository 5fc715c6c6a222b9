use Rattle.std.proofs.Common.{◌∙◌, refl}
use Rattle.cc_hosts.proofs.FixedLemmas.{answers_given}
use Rattle.cc_hosts.proofs.fixed_host.FixedHostHostFixed.make_dir.Goals as goal

pub invariant_of-self : goal.invariant_of-self
invariant_of-self c = answers_given _ _ c.self.inside.bench c.self.inside.bench c.make_dir.new.self _ c.make_dir.ensures.answers refl ∙ c.self.invariant
