use Rattle.cc_hosts.proofs.PlainLaws.{plain_after, replied_plain, plain_drawn}
use Rattle.std.proofs.Common.{drop}
use Rattle.cc_hosts.proofs.plain.PlainHostHostBench.random.Goals as goal

pub invariant_of-self : goal.invariant_of-self
invariant_of-self c =
    let plain = replied_plain _ (record c.self.inside.bench { words = drop 1 c.self.inside.bench.words }) c.self.inside.bench c.random.new.self c.random.result c.random.ensures.answers c.self.invariant.0 c.self.invariant.0 in
    plain_after c.self.inside.bench c.random.new.self _ c.self.invariant plain c.random.ensures.adds (plain_drawn c.random.result)
