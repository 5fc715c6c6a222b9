use Rattle.cc_hosts.proofs.PlainLaws.{plain_after, plain_removed}
use Rattle.cc_hosts.proofs.plain.PlainHostHostBench.remove_file.Goals as goal

pub invariant_of-self : goal.invariant_of-self
invariant_of-self c =
    let plain = c.remove_file.ensures.plain c.self.invariant.0 in
    plain_after c.self.inside.bench c.remove_file.new.self _ c.self.invariant plain.0 c.remove_file.ensures.adds (plain_removed c.args.path.now _ c.remove_file.result plain.1)
