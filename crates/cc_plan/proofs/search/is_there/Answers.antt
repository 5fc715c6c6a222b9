use Rattle.std.proofs.Common.{rules}
use Rattle.cc_plan.specs.Search.{is_there}
use Rattle.cc_plan.proofs.PassBy.{by_ok, pass_by}
use Rattle.cc_plan.proofs.search.is_there.Goals as goal

pub returns : goal.returns
unfolding is_there
returns c = by_ok _ _ c.in_ok-verdict.ensures (search rules) (search (pass_by, rules))
