use Rattle.std.proofs.Common.{refl}
use Rattle.cc_flags.specs.Wrappers.{wrapper_names}
use Rattle.cc_flags.proofs.wrappers.wrapper_names.Goals as goal

pub returns : goal.returns
unfolding wrapper_names
returns c = refl
