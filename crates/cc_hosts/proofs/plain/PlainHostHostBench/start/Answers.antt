use Rattle.cc_hosts.proofs.PlainLaws.{plain_after, plain_started}
use Rattle.cc_hosts.proofs.plain.PlainHostHostBench.start.Goals as goal

pub invariant_of-self : goal.invariant_of-self
invariant_of-self c =
    let plain = c.start.ensures.plain c.self.invariant.0 in
    plain_after c.self.inside.bench c.start.new.self _ c.self.invariant plain.0 c.start.ensures.adds (plain_started c.args.role c.args.cmd.now c.args.pipes c.args.held c.start.result plain.1)
