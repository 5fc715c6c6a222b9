use Rattle.std.proofs.Common.{◌≡◌, map, take}
use Rattle.cc_flags.specs.MapWords.{remap_pair}
use Rattle.cc_flags.proofs.maps.remap_pairs.Given as goal

abbrev pub invariant-loop-entry : goal.invariant-loop-entry
invariant-loop-entry l = l.pairs ≡ map remap_pair (take l.entry-index l.entry-items)
