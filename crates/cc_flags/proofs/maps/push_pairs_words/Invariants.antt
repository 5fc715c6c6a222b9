use Rattle.std.proofs.Common.{◌≡◌, ◌++◌, take}
use Rattle.cc_flags.specs.MapWords.{pairs_words}
use Rattle.cc_flags.proofs.maps.push_pairs_words.Given as goal

abbrev pub invariant-loop-pair : goal.invariant-loop-pair
invariant-loop-pair l = l.words ≡ l.initial.words ++ pairs_words l.family l.maps (take l.pair-index l.pair-items)
