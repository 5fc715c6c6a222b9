use Rattle.std.proofs.Common.{◌≡◌, take}
use Rattle.std.specs.List.{filter}
use Rattle.cc_text.specs.Pieces.{has_bytes}
use Rattle.cc_text.specs.Words.{texts}
use Rattle.cc_flags.proofs.maps.trim_pairs.Given as goal

abbrev pub invariant-loop-pair : goal.invariant-loop-pair
invariant-loop-pair l = l.pairs ≡ filter has_bytes (texts (take l.pair-index l.pair-items))
