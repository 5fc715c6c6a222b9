use Rattle.std.proofs.Common.{◌≡◌, take}
use Rattle.cc_flags.proofs.build_flags.Flags.try_clone.Given as goal

abbrev pub invariant-loop-flag : goal.invariant-loop-flag
invariant-loop-flag l = l.flags ≡ take l.flag-index l.flag-items
