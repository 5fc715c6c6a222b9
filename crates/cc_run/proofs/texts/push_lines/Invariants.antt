use Rattle.std.proofs.Common.{◌≡◌, ◌++◌, take, map}
use Rattle.cc_run.specs.Texts.{cargo_line}
use Rattle.cc_run.proofs.texts.push_lines.Given as goal

-- the lines so far
abbrev pub invariant-loop-text : goal.invariant-loop-text
invariant-loop-text l = l.lines.items ≡ l.fn.lines.items ++ map (cargo_line l.kind) (take l.text-index l.texts)
