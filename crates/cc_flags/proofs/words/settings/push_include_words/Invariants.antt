use Rattle.std.proofs.Common.{◌≡◌, ◌++◌, take}
use Rattle.cc_flags.specs.SettingWords.{include_words}
use Rattle.cc_flags.proofs.words.settings.push_include_words.Given as goal

abbrev pub invariant-loop-folder : goal.invariant-loop-folder
invariant-loop-folder l = l.words ≡ l.initial.words ++ include_words (take l.folder-index l.folders)
