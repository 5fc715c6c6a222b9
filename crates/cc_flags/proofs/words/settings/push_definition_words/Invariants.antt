use Rattle.std.proofs.Common.{◌≡◌, ◌++◌, take}
use Rattle.cc_flags.specs.SettingWords.{definition_words}
use Rattle.cc_flags.proofs.words.settings.push_definition_words.Given as goal

abbrev pub invariant-loop-definition : goal.invariant-loop-definition
invariant-loop-definition l = l.words ≡ l.initial.words ++ definition_words (take l.definition-index l.definitions)
