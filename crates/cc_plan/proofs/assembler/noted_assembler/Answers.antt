use Rattle.std.proofs.Common.{rules, arith}
use Rattle.std.proofs.lemmas.Grind.{common_steps}
use Rattle.cc_plan.proofs.PassBy.{by_done, by_ok}
use Rattle.cc_plan.specs.Assembler.{noted_assembler}
use Rattle.cc_plan.proofs.assembler.noted_assembler.Goals as goal

pub returns : goal.returns
unfolding noted_assembler
returns c = by_ok _ _ c.in_ok-note_names.ensures (first_of (search rules, cc, grind (arith, common_steps))) (by_done (first_of (search rules, cc, grind (arith, common_steps))))
