use Rattle.std.proofs.Common.{◌≡◌, ◌++◌, length, drop, []}
use Rattle.std.specs.Str.{chars}
use Rattle.cc_flags.proofs.CutTextLemmas.{words_left}
use Rattle.cc_flags.proofs.blanks.white_words.Given as goal

-- the words so far, and those of what is left
abbrev pub invariant-loop-c : goal.invariant-loop-c
invariant-loop-c l = l.words ++ words_left l.word (drop (length l.yielded) (chars l.text)) ≡ words_left [] (chars l.text)
