use Rattle.std.proofs.Common.{◌≡◌, ◌++◌, drop}
use Rattle.cc_command.specs.Graphed.{lines_from}
use Rattle.cc_command.proofs.graph_lines.end_lines.Given as goal

-- the lines so far, and those of the rest
abbrev pub invariant-loop-place : goal.invariant-loop-place
invariant-loop-place l = l.lines ++ lines_from l.place (drop l.place l.ends) ≡ lines_from 0 l.ends
