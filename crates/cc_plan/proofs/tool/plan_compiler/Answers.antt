use Rattle.std.proofs.Common.{refl, rules, arith}
use Rattle.std.proofs.lemmas.Grind.{common_steps}
use Rattle.cc_plan.proofs.HaltBy.{by_allowed, by_refused, by_unless, by_want}
use Rattle.cc_plan.proofs.PassBy.{by_ok}
use Rattle.cc_plan.specs.ToolPlan.{compiler_plan}
use Rattle.cc_plan.proofs.tool.plan_compiler.Goals as goal

pub returns-in_err-target : goal.returns-in_err-target
unfolding compiler_plan
returns-in_err-target c = by_refused _ _ c.from_residual.result c.in_err-target.ensures.refused refl c.from_residual.ensures.1

pub returns-in_err-compiler : goal.returns-in_err-compiler
unfolding compiler_plan
returns-in_err-compiler c = by_unless c.in_ok-target.ensures.allowed (by_want _ _ c.from_residual-in_err-compiler.result c.in_err-compiler.ensures (first_of (search rules, cc, grind (arith, common_steps))) c.from_residual-in_err-compiler.ensures.1)

pub returns : goal.returns
unfolding compiler_plan
returns c = by_unless c.in_ok-target.ensures.allowed (by_ok _ _ c.in_ok-compiler.ensures (first_of (search rules, cc, grind (arith, common_steps))) (by_allowed refl))
