use Rattle.cc_flags.specs.Variables.{sysroot_names}
use Rattle.cc_flags.proofs.variables.push_sysroot_names.Goals as goal

pub returns : goal.returns
unfolding sysroot_names
returns c = cc c.in_ok-push_chosen.ensures.ok
