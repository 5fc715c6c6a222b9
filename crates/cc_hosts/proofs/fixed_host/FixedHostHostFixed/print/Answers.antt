use Rattle.std.proofs.Common.{◌∙◌, refl}
use Rattle.cc_hosts.proofs.FixedLemmas.{answers_given}
use Rattle.cc_hosts.proofs.fixed_host.FixedHostHostFixed.print.Goals as goal

pub invariant_of-self : goal.invariant_of-self
invariant_of-self c = answers_given _ _ c.self.inside.bench c.self.inside.bench c.print.new.self _ c.print.ensures.answers refl ∙ c.self.invariant
