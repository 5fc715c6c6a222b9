use Rattle.std.proofs.Common.{◌≡◌, ◌++◌, drop}
use Rattle.std.specs.Option.{option_copied}
use Rattle.cc_text.specs.Words.{texts}
use Rattle.cc_flags.specs.Pairs.{pairs, left_of}
use Rattle.cc_flags.proofs.pairs.pairs_of.Given as goal

-- the pairs so far, and those that are left
abbrev pub invariant-loop-part : goal.invariant-loop-part
invariant-loop-part l = l.pairs.items ++ left_of (option_copied l.pending) (texts (drop l.part-index l.part-items)) ≡ pairs (texts l.part-items)
