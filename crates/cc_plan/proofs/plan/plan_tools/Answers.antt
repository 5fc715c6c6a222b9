use Rattle.std.proofs.Common.{rules, arith}
use Rattle.std.proofs.lemmas.Grind.{common_steps}
use Rattle.cc_plan.proofs.HaltBy.{by_halt}
use Rattle.cc_plan.specs.ToolPlan.{tools_plan}
use Rattle.cc_plan.proofs.plan.plan_tools.Goals as goal

pub returns-in_err-quiet : goal.returns-in_err-quiet
unfolding tools_plan
returns-in_err-quiet c = by_halt _ _ c.in_err-quiet.field-0.0 c.from_residual.result c.in_err-quiet.ensures (first_of (search rules, cc, grind (arith, common_steps))) c.from_residual.ensures.1
