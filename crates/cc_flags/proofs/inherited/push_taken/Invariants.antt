use Rattle.std.proofs.Common.{◌≡◌, ◌++◌, take}
use Rattle.cc_flags.specs.Inherited.{taken_words}
use Rattle.cc_flags.proofs.inherited.push_taken.Given as goal

abbrev pub invariant-loop-word : goal.invariant-loop-word
invariant-loop-word l = l.words ≡ l.initial.words ++ taken_words l.supported (take l.word-index l.wanted)
