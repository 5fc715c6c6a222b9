use Rattle.std.proofs.Common.{◌≡◌, take}
use Rattle.cc_build.specs.Flags.{always}
use Rattle.cc_build.proofs.lists.always.Given as goal

abbrev pub invariant-loop-word : goal.invariant-loop-word
invariant-loop-word l = l.flags ≡ always (take l.word-index l.word-items)
