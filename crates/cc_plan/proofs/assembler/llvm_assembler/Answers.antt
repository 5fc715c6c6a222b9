use Rattle.std.proofs.Common.{rules, arith}
use Rattle.std.proofs.lemmas.Grind.{common_steps}
use Rattle.cc_plan.proofs.PassBy.{by_ok, pass_by}
use Rattle.cc_plan.specs.Assembler.{llvm_assembler, or_in_command}
use Rattle.cc_plan.proofs.assembler.llvm_assembler.Goals as goal

pub returns-in-Some : goal.returns-in-Some
unfolding llvm_assembler or_in_command
returns-in-Some c = by_ok _ _ c.in_ok-found.ensures (first_of (search rules, cc, grind (arith, common_steps))) (rw c.in-Some.is (search (pass_by, rules)))
