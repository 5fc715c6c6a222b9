use Rattle.std.proofs.Common.{◌≡◌, take}
use Rattle.cc_flags.proofs.wrappers.words_of.Given as goal

abbrev pub invariant-loop-word : goal.invariant-loop-word
invariant-loop-word l = l.list ≡ take l.word-index l.words
