use Rattle.std.proofs.Common.{rules}
use Rattle.cc_plan.specs.Search.{which_in}
use Rattle.cc_plan.proofs.PassBy.{by_plan}
use Rattle.cc_plan.proofs.search.which_in.Goals as goal

pub returns : goal.returns
unfolding which_in
returns c = by_plan c.first_there.ensures (search rules)
