use Rattle.std.proofs.Common.{rules, arith}
use Rattle.std.proofs.lemmas.Grind.{common_steps}
use Rattle.cc_tool.specs.Plans.{or_else}
use Rattle.cc_plan.proofs.PassBy.{by_ok, pass_by}
use Rattle.cc_plan.specs.Assembler.{assembler_choice}
use Rattle.cc_plan.proofs.assembler.assembler_choice.Goals as goal

pub returns-in-Some : goal.returns-in-Some
unfolding assembler_choice or_else
returns-in-Some c = by_ok _ _ c.in_ok-choice.ensures (first_of (search rules, cc, grind (arith, common_steps))) (rw c.in-Some.is (search (pass_by, rules)))

pub returns-in-None : goal.returns-in-None
unfolding assembler_choice or_else
returns-in-None c = by_ok _ _ c.in_ok-choice.ensures (first_of (search rules, cc, grind (arith, common_steps))) (rw c.in-None.is (search (pass_by, rules)))
