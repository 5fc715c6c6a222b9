use Rattle.cc_flags.specs.Variables.{gnu_like_names}
use Rattle.cc_flags.proofs.variables.push_gnu_like_names.Goals as goal

pub returns : goal.returns
unfolding gnu_like_names
returns c = cc c.in_ok-push_chosen.ensures.ok
