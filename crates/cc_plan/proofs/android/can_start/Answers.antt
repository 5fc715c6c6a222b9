use Rattle.std.proofs.Common.{rules}
use Rattle.cc_plan.specs.Android.{can_start}
use Rattle.cc_plan.proofs.PassBy.{by_ok, pass_by}
use Rattle.cc_plan.proofs.android.can_start.Goals as goal

pub returns : goal.returns
unfolding can_start
returns c = by_ok _ _ c.in_ok-verdict.ensures (search rules) (search (pass_by, rules))
