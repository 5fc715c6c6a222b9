use Rattle.cc_hosts.proofs.PlainLaws.{plain_after, plain_ran}
use Rattle.cc_hosts.proofs.plain.PlainHostHostBench.output.Goals as goal

pub invariant_of-self : goal.invariant_of-self
invariant_of-self c =
    let plain = c.output.ensures.plain c.self.invariant.0 in
    plain_after c.self.inside.bench c.output.new.self _ c.self.invariant plain.0 c.output.ensures.adds (plain_ran c.args.role c.args.cmd.now c.args.pipes c.output.result plain.1)
