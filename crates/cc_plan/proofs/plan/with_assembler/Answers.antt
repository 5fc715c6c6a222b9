use Rattle.std.proofs.Common.{refl, rules, arith}
use Rattle.std.proofs.lemmas.Grind.{common_steps}
use Rattle.cc_plan.proofs.HaltBy.{by_allowed, by_want}
use Rattle.cc_plan.proofs.PassBy.{by_ok}
use Rattle.cc_plan.specs.ToolPlan.{with_assembler}
use Rattle.cc_plan.proofs.plan.with_assembler.Goals as goal

pub returns-in_err-assembler : goal.returns-in_err-assembler
unfolding with_assembler
returns-in_err-assembler c = by_want _ _ c.from_residual.result c.in_err-assembler.ensures (first_of (search rules, cc, grind (arith, common_steps))) c.from_residual.ensures.1

pub returns : goal.returns
unfolding with_assembler
returns c = by_ok _ _ c.in_ok-assembler.ensures (first_of (search rules, cc, grind (arith, common_steps))) (by_allowed refl)
