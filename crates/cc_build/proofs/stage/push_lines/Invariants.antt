use Rattle.std.proofs.Common.{◌≡◌, ◌++◌, take}
use Rattle.cc_plan.specs.Plan.{prints}
use Rattle.cc_build.specs.Seen.{stages_seen}
use Rattle.cc_build.specs.Stage.{calls}
use Rattle.cc_build.proofs.stage.push_lines.Given as goal

-- the lines so far were added
abbrev pub invariant-loop-line : goal.invariant-loop-line
invariant-loop-line l = stages_seen l.stages.items ≡ stages_seen l.fn.stages.items ++ calls (prints l.kind (take l.line-index l.line-items))
