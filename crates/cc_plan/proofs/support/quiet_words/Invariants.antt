use Rattle.std.proofs.Common.{◌≡◌, take}
use Rattle.cc_plan.specs.Support.{quiet_words}
use Rattle.cc_plan.proofs.support.quiet_words.Given as goal

abbrev pub invariant-loop-word : goal.invariant-loop-word
invariant-loop-word l = l.quiet ≡ quiet_words (take l.word-index l.words)
