use Rattle.cc_hosts.proofs.PlainLaws.{plain_after, plain_wrote}
use Rattle.cc_hosts.proofs.plain.PlainHostHostBench.write_file.Goals as goal

pub invariant_of-self : goal.invariant_of-self
invariant_of-self c =
    let plain = c.write_file.ensures.plain c.self.invariant.0 in
    plain_after c.self.inside.bench c.write_file.new.self _ c.self.invariant plain.0 c.write_file.ensures.adds (plain_wrote c.args.path.now c.args.contents.now tt c.write_file.result plain.1)
