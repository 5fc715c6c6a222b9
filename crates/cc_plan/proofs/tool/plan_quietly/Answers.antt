use Rattle.std.proofs.Common.{rules, arith}
use Rattle.std.proofs.lemmas.Grind.{common_steps}
use Rattle.cc_plan.proofs.HaltBy.{by_halt}
use Rattle.cc_plan.specs.ToolPlan.{tool_plan}
use Rattle.cc_plan.proofs.tool.plan_quietly.Goals as goal

pub returns-in_err-compiler : goal.returns-in_err-compiler
unfolding tool_plan
returns-in_err-compiler c = by_halt _ _ c.in_err-compiler.field-0.0 c.from_residual.result c.in_err-compiler.ensures (first_of (search rules, cc, grind (arith, common_steps))) c.from_residual.ensures.1
