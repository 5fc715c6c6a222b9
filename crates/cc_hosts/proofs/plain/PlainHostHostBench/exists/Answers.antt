use Rattle.cc_hosts.proofs.PlainLaws.{plain_after, replied_plain, plain_found}
use Rattle.cc_hosts.proofs.plain.PlainHostHostBench.exists.Goals as goal

pub invariant_of-self : goal.invariant_of-self
invariant_of-self c =
    let plain = replied_plain _ c.self.inside.bench c.self.inside.bench c.exists.new.self c.exists.result c.exists.ensures.answers c.self.invariant.0 c.self.invariant.0 in
    plain_after c.self.inside.bench c.exists.new.self _ c.self.invariant plain c.exists.ensures.adds (plain_found c.args.path.now c.exists.result)
