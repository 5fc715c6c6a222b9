use Rattle.cc_flags.specs.Wanted.{vector_words}
use Rattle.cc_flags.proofs.wanted.push_vector_words.Goals as goal

pub returns : goal.returns
unfolding vector_words
returns c = cc c.in_ok-push_chosen.ensures.ok
