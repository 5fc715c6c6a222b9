use Rattle.cc_hosts.proofs.PlainLaws.{plain_after, replied_plain, plain_unasked}
use Rattle.cc_hosts.proofs.plain.PlainHostHostBench.unasked.Goals as goal

pub invariant_of-self : goal.invariant_of-self
invariant_of-self c =
    let plain = replied_plain _ c.self.inside.bench c.self.inside.bench c.unasked.new.self c.unasked.result c.unasked.ensures.answers c.self.invariant.0 c.self.invariant.0 in
    plain_after c.self.inside.bench c.unasked.new.self _ c.self.invariant plain c.unasked.ensures.adds (plain_unasked c.args.q.now c.unasked.result)
