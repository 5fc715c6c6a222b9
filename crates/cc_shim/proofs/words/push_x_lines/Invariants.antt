use Rattle.std.proofs.Common.{◌≡◌, ◌++◌}
use Rattle.cc_shim.specs.Shim.{x_lines}
use Rattle.cc_shim.proofs.words.push_x_lines.Given as goal

abbrev pub invariant-loop-line : goal.invariant-loop-line
invariant-loop-line l = l.text ≡ l.initial.text ++ x_lines l._line
