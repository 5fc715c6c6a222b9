use Rattle.cc_hosts.proofs.PlainLaws.{plain_after, plain_listed}
use Rattle.cc_hosts.proofs.plain.PlainHostHostBench.vars.Goals as goal

pub invariant_of-self : goal.invariant_of-self
invariant_of-self c =
    let plain = c.vars.ensures.plain c.self.invariant.0 in
    plain_after c.self.inside.bench c.vars.new.self _ c.self.invariant plain.0 c.vars.ensures.adds (plain_listed _ c.vars.result plain.1)
