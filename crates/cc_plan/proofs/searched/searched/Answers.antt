use Rattle.std.proofs.Common.{rules}
use Rattle.cc_plan.specs.Searched.{searched}
use Rattle.cc_plan.proofs.PassBy.{by_ok}
use Rattle.cc_plan.proofs.searched.searched.Goals as goal

pub returns : goal.returns
unfolding searched
returns c = by_ok _ _ c.in_ok-verdict.ensures (search rules) c.in_dirs.ensures
