use Rattle.std.proofs.Common.{◌≡◌, ◌++◌, take}
use Rattle.std.specs.List.{flat_map}
use Rattle.cc_flags.specs.SettingWords.{flag_word}
use Rattle.cc_flags.proofs.words.settings.push_flag_words.Given as goal

abbrev pub invariant-loop-flag : goal.invariant-loop-flag
invariant-loop-flag l = l.words ≡ l.initial.words ++ flat_map (flag_word l.supported) (take l.flag-index l.flag-items)
