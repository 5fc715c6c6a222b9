use Rattle.std.proofs.Common.{◌∙◌}
use Rattle.cc_hosts.proofs.FixedLemmas.{start_given}
use Rattle.cc_hosts.proofs.fixed_host.FixedHostHostFixed.start.Goals as goal

pub invariant_of-self : goal.invariant_of-self
invariant_of-self c = start_given c.args.role c.args.cmd.now c.self.inside.bench _ _ c.start.ensures.answers ∙ c.self.invariant
