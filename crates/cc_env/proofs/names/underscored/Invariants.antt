use Rattle.std.proofs.Common.{◌≡◌, ◌++◌, length, drop, flat_map, encode_utf8}
use Rattle.std.specs.Str.{chars}
use Rattle.cc_env.specs.Names.{underscore}
use Rattle.cc_env.proofs.names.underscored.Given as goal

-- the text so far, and what is left
abbrev pub invariant-loop-c : goal.invariant-loop-c
invariant-loop-c l = l.out ++ flat_map (λ c. encode_utf8 (underscore c)) (drop (length l.yielded) (chars l.text)) ≡ flat_map (λ c. encode_utf8 (underscore c)) (chars l.text)
