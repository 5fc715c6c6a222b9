use Rattle.std.proofs.Common.{refl}
use Rattle.cc_flags.specs.Wrappers.{rustc_wrapper_names}
use Rattle.cc_flags.proofs.wrappers.rustc_wrapper_names.Goals as goal

pub returns : goal.returns
unfolding rustc_wrapper_names
returns c = refl
