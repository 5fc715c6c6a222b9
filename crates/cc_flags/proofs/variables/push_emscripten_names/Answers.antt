use Rattle.cc_flags.specs.Variables.{emscripten_names}
use Rattle.cc_flags.proofs.variables.push_emscripten_names.Goals as goal

pub returns : goal.returns
unfolding emscripten_names
returns c = cc c.in_ok-push_chosen.ensures.ok
