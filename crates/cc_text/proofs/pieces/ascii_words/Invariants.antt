use Rattle.std.proofs.Common.{◌≡◌, ◌++◌}
use Rattle.std.specs.Str.Iter.{split_ascii_whitespace_text}
use Rattle.cc_text.specs.Pieces.{ascii_words}
use Rattle.cc_text.proofs.pieces.ascii_words.Given as goal

-- the words so far, and those of what is left
abbrev pub invariant-loop-word : goal.invariant-loop-word
invariant-loop-word l = l.words ++ ascii_words (split_ascii_whitespace_text l.word-iterator) ≡ ascii_words l.s
