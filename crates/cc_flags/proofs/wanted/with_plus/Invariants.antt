use Rattle.std.proofs.Common.{◌≡◌, ◌++◌, length, drop, flat_map, encode_utf8}
use Rattle.std.specs.Str.{chars}
use Rattle.cc_flags.specs.Wanted.{plus_for_comma}
use Rattle.cc_flags.proofs.wanted.with_plus.Given as goal

-- the text so far, and what is left
abbrev pub invariant-loop-c : goal.invariant-loop-c
invariant-loop-c l = l.text ++ flat_map (λ c. encode_utf8 (plus_for_comma c)) (drop (length l.yielded) (chars l.kinds)) ≡ flat_map (λ c. encode_utf8 (plus_for_comma c)) (chars l.kinds)
