use Rattle.std.proofs.Common.{◌≡◌, ℕ, List, take}
use Rattle.std.specs.BTreeSet.{contains_text}
use Rattle.cc_text.specs.Words.{is_among}
use Rattle.cc_flags.proofs.supported.index_of.Given as goal

-- the words so far are in the index
abbrev pub invariant-loop-word : goal.invariant-loop-word
invariant-loop-word l = (text : List ℕ) → contains_text l.index text ≡ is_among (take l.word-index l.words) text
