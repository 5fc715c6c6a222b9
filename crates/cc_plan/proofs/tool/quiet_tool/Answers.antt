use Rattle.std.proofs.Common.{rules, arith}
use Rattle.std.proofs.lemmas.Grind.{common_steps}
use Rattle.cc_plan.proofs.HaltBy.{by_allowed, by_want}
use Rattle.cc_plan.proofs.PassBy.{by_ok}
use Rattle.cc_plan.specs.ToolPlan.{quiet_tool}
use Rattle.cc_plan.proofs.tool.quiet_tool.Goals as goal

pub returns-in_err-supported : goal.returns-in_err-supported
unfolding quiet_tool
returns-in_err-supported c = by_want _ _ c.from_residual.result c.in_err-supported.ensures (first_of (search rules, cc, grind (arith, common_steps))) c.from_residual.ensures.1

pub returns : goal.returns
unfolding quiet_tool
returns c = by_ok _ _ c.in_ok-supported.ensures (first_of (search rules, cc, grind (arith, common_steps))) (by_allowed (first_of (search rules, cc, grind (arith, common_steps))))
