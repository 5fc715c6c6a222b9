use Rattle.std.proofs.Common.{◌≡◌, ◌++◌, take}
use Rattle.std.specs.List.{flat_map}
use Rattle.cc_flags.specs.SettingWords.{flag_ask}
use Rattle.cc_flags.proofs.words.settings.push_flag_asks.Given as goal

abbrev pub invariant-loop-flag : goal.invariant-loop-flag
invariant-loop-flag l = l.words ≡ l.initial.words ++ flat_map flag_ask (take l.flag-index l.flag-items)
