use Rattle.std.proofs.Common.{rules}
use Rattle.cc_plan.specs.Android.{if_started}
use Rattle.cc_plan.proofs.PassBy.{by_ok, pass_by}
use Rattle.cc_plan.proofs.android.if_started.Goals as goal

pub returns-in_ok-of-in-Some : goal.returns-in_ok-of-in-Some
unfolding if_started
returns-in_ok-of-in-Some c = rw c.in-Some.is (by_ok _ _ c.in_ok-can_start-in-Some.ensures (search rules) (search (pass_by, rules)))

pub returns-else-branch : goal.returns-else-branch
unfolding if_started
returns-else-branch c = rw c.in-Some.is (by_ok _ _ c.in_ok-can_start-in-Some.ensures (search rules) (search (pass_by, rules)))
