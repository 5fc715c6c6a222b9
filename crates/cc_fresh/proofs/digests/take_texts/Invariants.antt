use Rattle.std.proofs.Common.{ℕ, List, ◌++◌, take, flat_map}
use Rattle.sha2.specs.Hashers.{Holds256}
use Rattle.cc_fresh.specs.Digests.{closed}
use Rattle.cc_fresh.proofs.digests.take_texts.Given as goal

-- the texts so far
abbrev pub invariant-loop-text : goal.invariant-loop-text
invariant-loop-text l = (m : List ℕ) → Holds256 l.fn.hasher m → Holds256 l.hasher (m ++ flat_map closed (take l.text-index l.fn.texts))
