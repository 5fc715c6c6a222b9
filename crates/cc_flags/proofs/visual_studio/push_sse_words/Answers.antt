use Rattle.cc_flags.specs.VisualStudioWords.{sse_words}
use Rattle.cc_flags.proofs.visual_studio.push_sse_words.Goals as goal

pub returns-in_ok-push : goal.returns-in_ok-push
unfolding sse_words
returns-in_ok-push c = rw (← c.eq.ensures, c.if-eq.true) c.in_ok-push.ensures.ok
