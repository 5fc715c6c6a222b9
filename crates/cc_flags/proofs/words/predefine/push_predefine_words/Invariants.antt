use Rattle.std.proofs.Common.{◌≡◌, ◌++◌, take}
use Rattle.cc_flags.specs.Predefine.{predefine_words}
use Rattle.cc_flags.proofs.words.predefine.push_predefine_words.Given as goal

abbrev pub invariant-loop-definition : goal.invariant-loop-definition
invariant-loop-definition l = l.words ≡ l.fn.words ++ predefine_words (take l.definition-index l.definitions)
