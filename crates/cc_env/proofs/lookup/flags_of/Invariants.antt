use Rattle.std.proofs.Common.{◌≡◌, ◌≤◌, drop, flat_map, length, nat_lt, reverse}
use Rattle.cc_env.specs.Names.{set_values, flag_words}
use Rattle.cc_env.proofs.lookup.flags_of.Given as goal

-- the words of the names from `left` on, the last name's first
abbrev pub invariant-loop-left : goal.invariant-loop-left
invariant-loop-left l = record {
  within : l.left ≤ length l.names;
  found : l.found ≡ nat_lt 0 (length (set_values l.env (drop l.left l.names)));
  words : l.words ≡ flat_map (flag_words l.shell) (reverse (set_values l.env (drop l.left l.names)));
}

abbrev pub decreases-loop-left : goal.decreases-loop-left
decreases-loop-left l = l.left
