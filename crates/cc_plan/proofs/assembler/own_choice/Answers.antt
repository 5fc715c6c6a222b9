use Rattle.std.proofs.Common.{rules, arith}
use Rattle.std.proofs.lemmas.Grind.{common_steps}
use Rattle.cc_plan.proofs.PassBy.{by_done, by_ok}
use Rattle.cc_plan.specs.Assembler.{own_choice}
use Rattle.cc_plan.proofs.assembler.own_choice.Goals as goal

pub returns : goal.returns
unfolding own_choice
returns c = by_ok _ _ c.in_ok-path.ensures (first_of (search rules, cc, grind (arith, common_steps))) (by_done (first_of (search rules, cc, grind (arith, common_steps))))
