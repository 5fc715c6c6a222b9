use Rattle.std.proofs.Common.{rules, arith}
use Rattle.std.proofs.lemmas.Grind.{common_steps}
use Rattle.cc_plan.proofs.HaltBy.{by_refused}
use Rattle.cc_plan.specs.ToolPlan.{tool_with}
use Rattle.cc_plan.proofs.tool.tool_with.Goals as goal

pub returns-in_err-check_compiler : goal.returns-in_err-check_compiler
unfolding tool_with
returns-in_err-check_compiler c = by_refused _ _ c.from_residual-in_err-check_compiler.result c.in_err-check_compiler.ensures.refused (first_of (search rules, cc, grind (arith, common_steps))) c.from_residual-in_err-check_compiler.ensures.1
