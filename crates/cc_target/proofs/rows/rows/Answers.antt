-- The table of the code computes to the table of the definitions.
use Rattle.std.proofs.Common.{refl}
use Rattle.cc_target.specs.Targets.{lines}
use Rattle.cc_target.proofs.rows.rows.Goals as goal

pub returns : goal.returns
unfolding lines
returns c = refl
