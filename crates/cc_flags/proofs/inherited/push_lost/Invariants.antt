use Rattle.std.proofs.Common.{◌≡◌, ◌++◌, take}
use Rattle.cc_flags.specs.Inherited.{lost_words}
use Rattle.cc_flags.proofs.inherited.push_lost.Given as goal

abbrev pub invariant-loop-word : goal.invariant-loop-word
invariant-loop-word l = l.warnings ≡ l.initial.warnings ++ lost_words l.supported (take l.word-index l.wanted)
