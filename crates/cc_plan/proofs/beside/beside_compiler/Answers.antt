use Rattle.std.proofs.Common.{rules}
use Rattle.cc_plan.specs.Beside.{beside_compiler, or_own_folder}
use Rattle.cc_plan.proofs.PassBy.{by_ok, pass_by}
use Rattle.cc_plan.proofs.beside.beside_compiler.Goals as goal

pub returns-in-Some : goal.returns-in-Some
unfolding beside_compiler or_own_folder
returns-in-Some c = by_ok _ _ c.in_ok-found.ensures (search rules) (rw c.in-Some.is (search (pass_by, rules)))
