use Rattle.cc_flags.specs.DefaultWords.{linkage_words}
use Rattle.cc_flags.proofs.defaults.push_linkage_words.Goals as goal

pub returns : goal.returns
unfolding linkage_words
returns c = cc c.in_ok-push_chosen.ensures.ok
