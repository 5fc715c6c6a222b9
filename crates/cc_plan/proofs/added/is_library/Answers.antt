use Rattle.cc_plan.proofs.AddedLaws.{same_paths}
use Rattle.cc_plan.proofs.added.is_library.Goals as goal

pub returns : goal.returns
returns c = same_paths c.same_path.result c.args.path.now c.args.library.now c.same_path.ensures
