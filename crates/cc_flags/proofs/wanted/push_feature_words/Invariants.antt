use Rattle.std.proofs.Common.{◌≡◌, ◌++◌, take}
use Rattle.cc_flags.specs.Wanted.{feature_words}
use Rattle.cc_flags.proofs.wanted.push_feature_words.Given as goal

abbrev pub invariant-loop-feature : goal.invariant-loop-feature
invariant-loop-feature l = l.words ≡ l.initial.words ++ feature_words l.arch (take l.feature-index l.feature-items)
