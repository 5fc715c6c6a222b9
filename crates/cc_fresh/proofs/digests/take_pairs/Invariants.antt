use Rattle.std.proofs.Common.{ℕ, List, ◌++◌, take, flat_map}
use Rattle.sha2.specs.Hashers.{Holds256}
use Rattle.cc_fresh.specs.Digests.{closed_pair}
use Rattle.cc_fresh.proofs.digests.take_pairs.Given as goal

-- the names and values so far
abbrev pub invariant-loop-name : goal.invariant-loop-name
invariant-loop-name l = (m : List ℕ) → Holds256 l.fn.hasher m → Holds256 l.hasher (m ++ flat_map closed_pair (take l.name-index l.fn.pairs))
