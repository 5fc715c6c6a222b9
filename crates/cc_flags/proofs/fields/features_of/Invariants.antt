use Rattle.std.proofs.Common.{◌≡◌, take}
use Rattle.cc_flags.specs.Fields.{features_of}
use Rattle.cc_flags.proofs.fields.features_of.Given as goal

abbrev pub invariant-loop-pair : goal.invariant-loop-pair
invariant-loop-pair l = l.names ≡ features_of (take l.pair-index l.pairs)
