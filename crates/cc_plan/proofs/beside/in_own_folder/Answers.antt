use Rattle.std.proofs.Common.{rules}
use Rattle.cc_plan.specs.Beside.{in_own_folder, in_folder_of}
use Rattle.cc_plan.proofs.PassBy.{by_ok, pass_by}
use Rattle.cc_plan.proofs.beside.in_own_folder.Goals as goal

pub returns-in-None : goal.returns-in-None
unfolding in_own_folder in_folder_of
returns-in-None c = by_ok _ _ c.in_ok-file.ensures (search rules) (rw c.in-None.is (search (pass_by, rules)))
