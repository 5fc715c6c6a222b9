use Rattle.std.proofs.Common.{refl}
use Rattle.cc_flags.specs.GnuWords.{arm_lines}
use Rattle.cc_flags.proofs.arm.arm_rows.Goals as goal

pub returns : goal.returns
unfolding arm_lines
returns c = refl
