use Rattle.std.proofs.Common.{◌≡◌, ◌++◌, take, flat_map, encode_utf8}
use Rattle.cc_text.proofs.pieces.push_each.Given as goal

-- each word so far, after the delimiter
abbrev pub invariant-loop-word : goal.invariant-loop-word
invariant-loop-word l = l.text ≡ l.fn.text ++ flat_map (λ word. encode_utf8 l.delimiter ++ word) (take l.word-index l.words)
