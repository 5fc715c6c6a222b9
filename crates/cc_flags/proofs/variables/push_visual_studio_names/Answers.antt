use Rattle.cc_flags.specs.Variables.{visual_studio_names}
use Rattle.cc_flags.proofs.variables.push_visual_studio_names.Goals as goal

pub returns : goal.returns
unfolding visual_studio_names
returns c = cc c.in_ok-push_chosen.ensures.ok
