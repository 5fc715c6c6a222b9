use Rattle.std.proofs.Common.{rules, arith}
use Rattle.std.proofs.lemmas.Grind.{common_steps}
use Rattle.cc_plan.proofs.PassBy.{by_done, by_ok}
use Rattle.cc_plan.specs.Assembler.{own_assembler}
use Rattle.cc_plan.proofs.assembler.own_assembler.Goals as goal

pub returns-in-Some : goal.returns-in-Some
unfolding own_assembler
returns-in-Some c = by_ok _ _ c.in_ok-path.ensures (first_of (search rules, cc, grind (arith, common_steps))) (by_done (first_of (search rules, cc, grind (arith, common_steps))))

pub returns-in_ok-of-in-None : goal.returns-in_ok-of-in-None
unfolding own_assembler
returns-in_ok-of-in-None c = by_ok _ _ c.in_ok-path.ensures (first_of (search rules, cc, grind (arith, common_steps))) (by_done (first_of (search rules, cc, grind (arith, common_steps))))
