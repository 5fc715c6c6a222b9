use Rattle.std.proofs.Common.{rules}
use Rattle.cc_plan.specs.Search.{which}
use Rattle.cc_plan.proofs.PassBy.{by_plan}
use Rattle.cc_plan.proofs.search.which.Goals as goal

pub returns : goal.returns
unfolding which
returns c = by_plan c.first_there.ensures (search rules)
