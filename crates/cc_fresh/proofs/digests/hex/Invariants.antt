use Rattle.std.proofs.Common.{◌≡◌, take}
use Rattle.cc_fresh.specs.Digests.{hex}
use Rattle.cc_fresh.proofs.digests.hex.Given as goal

-- the digits so far
abbrev pub invariant-loop-byte : goal.invariant-loop-byte
invariant-loop-byte l = l.text ≡ hex (take l.byte-index l.bytes)
