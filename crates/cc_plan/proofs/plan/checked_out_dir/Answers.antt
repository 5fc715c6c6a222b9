use Rattle.std.proofs.Common.{rules}
use Rattle.cc_plan.proofs.SourceLaws.{probes_in_out_dir}
use Rattle.cc_plan.proofs.plan.checked_out_dir.Goals as goal

pub returns-in-Some-clause-probes : goal.returns-in-Some-clause-probes
returns-in-Some-clause-probes c = probes_in_out_dir c.args.set.now c.args.env.now c.in-Some.dir.now (search rules) (search rules)
