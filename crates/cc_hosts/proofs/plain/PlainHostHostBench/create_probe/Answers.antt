use Rattle.cc_hosts.proofs.PlainLaws.{plain_after, plain_created}
use Rattle.cc_hosts.proofs.plain.PlainHostHostBench.create_probe.Goals as goal

pub invariant_of-self : goal.invariant_of-self
invariant_of-self c =
    let plain = c.create_probe.ensures.plain c.self.invariant.0 in
    plain_after c.self.inside.bench c.create_probe.new.self _ c.self.invariant plain.0 c.create_probe.ensures.adds (plain_created c.args.path.now c.args.contents.now _ c.create_probe.result plain.1)
