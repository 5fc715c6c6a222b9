use Rattle.std.proofs.Common.{take}
use Rattle.cc_graph.specs.Frontier.{Sound, AreOpen, Lowers}
use Rattle.cc_graph.proofs.frontier.Frontier.lower_all.Given as goal

-- so were those so far
abbrev pub invariant-loop-place : goal.invariant-loop-place
invariant-loop-place l = Sound l.fn.self → AreOpen l.fn.self l.places → Lowers l.fn.self l.self (take l.place-index l.places)
