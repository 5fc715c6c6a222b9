use Rattle.std.proofs.Common.{◌≡◌, take}
use Rattle.cc_build.specs.Stage.{rerun_lines}
use Rattle.cc_build.proofs.directives.rerun_lines.Given as goal

-- the lines so far are those of the names so far
abbrev pub invariant-loop-name : goal.invariant-loop-name
invariant-loop-name l = l.lines ≡ rerun_lines (take l.name-index l.names)
