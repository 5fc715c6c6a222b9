use Rattle.std.proofs.Common.{rules}
use Rattle.cc_plan.specs.Android.{older_compiler}
use Rattle.cc_plan.proofs.PassBy.{by_ok, pass_by}
use Rattle.cc_plan.proofs.android.older_compiler.Goals as goal

pub returns-then-branch : goal.returns-then-branch
unfolding older_compiler
returns-then-branch c = by_ok _ _ c.in_ok-can_start.ensures (search rules) (search (pass_by, rules))

pub returns : goal.returns
unfolding older_compiler
returns c = by_ok _ _ c.in_ok-can_start.ensures (search rules) (search (pass_by, rules))
