use Rattle.cc_hosts.proofs.PlainLaws.{plain_turn}
use Rattle.cc_hosts.proofs.plain.PlainHostHostBench.turn.Goals as goal

pub invariant_of-self : goal.invariant_of-self
invariant_of-self c =
    let plain = c.turn.ensures.plain c.self.invariant.0 in
    plain_turn c.turn.result (λ news. news.items) c.self.inside.bench c.turn.new.self c.turn.ensures.adds c.turn.ensures.refuses c.self.invariant plain.0 plain.1
