use Rattle.cc_hosts.proofs.PlainLaws.{plain_after, plain_probed}
use Rattle.cc_hosts.proofs.plain.PlainHostHostBench.probe.Goals as goal

pub invariant_of-self : goal.invariant_of-self
invariant_of-self c =
    let plain = c.probe.ensures.plain c.self.invariant.0 in
    let adds = c.probe.ensures.adds in
    plain_after c.self.inside.bench c.probe.new.self _ c.self.invariant plain.0 adds.1 (plain_probed c.args.q.now c.args.files.now adds.0 c.probe.result plain.1)
