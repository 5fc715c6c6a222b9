use Rattle.cc_hosts.proofs.PlainLaws.{plain_after, replied_plain, plain_reused}
use Rattle.cc_hosts.proofs.plain.PlainHostHostBench.reused.Goals as goal

pub invariant_of-self : goal.invariant_of-self
invariant_of-self c =
    let plain = replied_plain _ c.self.inside.bench c.self.inside.bench c.reused.new.self c.reused.result c.reused.ensures.answers c.self.invariant.0 c.self.invariant.0 in
    plain_after c.self.inside.bench c.reused.new.self _ c.self.invariant plain c.reused.ensures.adds (plain_reused c.args.q.now c.args.verdict.now c.reused.result)
