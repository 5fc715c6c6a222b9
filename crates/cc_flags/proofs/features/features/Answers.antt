-- The table of the code computes to the table of the definitions.
use Rattle.std.proofs.Common.{refl}
use Rattle.cc_flags.specs.Features.{features}
use Rattle.cc_flags.proofs.features.features.Goals as goal

pub returns : goal.returns
unfolding features
returns c = refl
