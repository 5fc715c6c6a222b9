use Rattle.cc_flags.specs.GnuWords.{bare_words}
use Rattle.cc_flags.proofs.gnu.push_bare_words.Goals as goal

pub returns : goal.returns
unfolding bare_words
returns c = cc c.in_ok-push_chosen.ensures.ok
