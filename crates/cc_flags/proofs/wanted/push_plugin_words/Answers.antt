use Rattle.cc_flags.specs.Wanted.{plugin_words}
use Rattle.cc_flags.proofs.wanted.push_plugin_words.Goals as goal

pub returns : goal.returns
unfolding plugin_words
returns c = cc c.in_ok-push_chosen.ensures.ok
