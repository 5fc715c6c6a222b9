use Rattle.std.proofs.Common.{◌≡◌, ◌++◌, map, drop}
use Rattle.cc_tool.specs.Seeking.{by_first}
use Rattle.cc_tool.proofs.seeking.exists_from_pairs.Given as goal

abbrev pub invariant-loop-place : goal.invariant-loop-place
invariant-loop-place l = l.questions.items ++ map by_first (drop l.place l.pairs) ≡ map by_first (drop l.from l.pairs)
