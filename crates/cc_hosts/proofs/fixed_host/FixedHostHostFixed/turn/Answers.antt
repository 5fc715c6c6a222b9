use Rattle.std.proofs.Common.{◌∙◌}
use Rattle.cc_hosts.proofs.FixedLemmas.{turn_given}
use Rattle.cc_hosts.proofs.fixed_host.FixedHostHostFixed.turn.Goals as goal

pub invariant_of-self : goal.invariant_of-self
invariant_of-self c = turn_given c.self.inside.bench _ _ c.turn.ensures.answers ∙ c.self.invariant
