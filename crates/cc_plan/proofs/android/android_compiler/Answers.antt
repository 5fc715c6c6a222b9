use Rattle.std.proofs.Common.{rules}
use Rattle.cc_tool.specs.Plans.{or_else}
use Rattle.cc_plan.specs.Android.{android_compiler}
use Rattle.cc_plan.proofs.PassBy.{by_ok, pass_by}
use Rattle.cc_plan.proofs.android.android_compiler.Goals as goal

pub returns-in-Some : goal.returns-in-Some
unfolding android_compiler or_else
returns-in-Some c = by_ok _ _ c.in_ok-path.ensures (search rules) (rw c.in-Some.is (search (pass_by, rules)))
