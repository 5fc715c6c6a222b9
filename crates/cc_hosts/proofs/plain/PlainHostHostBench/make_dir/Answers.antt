use Rattle.cc_hosts.proofs.PlainLaws.{plain_after, plain_made}
use Rattle.cc_hosts.proofs.plain.PlainHostHostBench.make_dir.Goals as goal

pub invariant_of-self : goal.invariant_of-self
invariant_of-self c =
    let plain = c.make_dir.ensures.plain c.self.invariant.0 in
    plain_after c.self.inside.bench c.make_dir.new.self _ c.self.invariant plain.0 c.make_dir.ensures.adds (plain_made c.args.scope c.args.path.now tt c.make_dir.result plain.1)
