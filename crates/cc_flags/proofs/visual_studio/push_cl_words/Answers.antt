use Rattle.cc_flags.specs.VisualStudioWords.{cl_words}
use Rattle.cc_flags.proofs.visual_studio.push_cl_words.Goals as goal

pub returns : goal.returns
unfolding cl_words
returns c = cc c.in_ok-push_chosen.ensures.ok
