use Rattle.cc_hosts.proofs.PlainLaws.{plain_after, plain_printed}
use Rattle.cc_hosts.proofs.plain.PlainHostHostBench.print.Goals as goal

pub invariant_of-self : goal.invariant_of-self
invariant_of-self c =
    let plain = c.print.ensures.plain c.self.invariant.0 in
    plain_after c.self.inside.bench c.print.new.self _ c.self.invariant plain.0 c.print.ensures.adds (plain_printed c.args.kind c.args.bytes.now tt c.print.result plain.1)
