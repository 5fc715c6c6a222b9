use Rattle.std.proofs.Common.{◌≡◌, take}
use Rattle.cc_flags.proofs.build_flags.Definitions.try_clone.Given as goal

abbrev pub invariant-loop-definition : goal.invariant-loop-definition
invariant-loop-definition l = l.definitions ≡ take l.definition-index l.definition-items
