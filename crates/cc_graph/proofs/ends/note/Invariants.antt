use Rattle.std.proofs.Common.{◌≡◌, drop}
use Rattle.cc_graph.specs.Ends.{ends_from}
use Rattle.cc_graph.proofs.ends.note.Given as goal

-- the marks that are left do the rest
abbrev pub invariant-loop-mark : goal.invariant-loop-mark
invariant-loop-mark l = ends_from l.ends.items (drop l.mark-index l.marks) ≡ ends_from l.fn.ends.items l.marks
