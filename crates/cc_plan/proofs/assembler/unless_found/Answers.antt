use Rattle.std.proofs.Common.{◌≡◌, true, is_some, rules, arith}
use Rattle.std.proofs.lemmas.Grind.{common_steps}
use Rattle.cc_tool.proofs.PassLemmas.{pass_done}
use Rattle.cc_plan.proofs.PassBy.{by_ok}
use Rattle.cc_plan.specs.Assembler.{unless_found}
use Rattle.cc_plan.proofs.assembler.unless_found.Goals as goal

pub returns-then-is_some : goal.returns-then-is_some
unfolding unless_found
returns-then-is_some c =
    let there : is_some c.in_ok-which_in_command.field-0 ≡ true = first_of (search rules, cc, grind (arith, common_steps)) in
    by_ok _ _ c.in_ok-which_in_command.ensures (first_of (search rules, cc, grind (arith, common_steps))) (rw there pass_done)
