use Rattle.std.proofs.Common.{◌≡◌, ◌++◌, length, drop, flat_map, codes}
use Rattle.std.specs.Str.{chars}
use Rattle.cc_text.specs.Quoted.{quoted_char}
use Rattle.cc_text.proofs.quoting.quoted.Given as goal

-- the text so far, what is left in quotes, and the last quote mark
abbrev pub invariant-loop-c : goal.invariant-loop-c
invariant-loop-c l = l.text ++ flat_map quoted_char (drop (length l.yielded) (chars l.s)) ≡ codes "\"" ++ flat_map quoted_char (chars l.s)
