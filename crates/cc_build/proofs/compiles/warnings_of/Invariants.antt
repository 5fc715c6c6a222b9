use Rattle.std.proofs.Common.{◌≡◌, take}
use Rattle.std.specs.List.{flat_map}
use Rattle.cc_plan.specs.Plan.{warning_steps}
use Rattle.cc_build.specs.Seen.{stages_seen}
use Rattle.cc_build.specs.Stage.{calls}
use Rattle.cc_build.proofs.compiles.warnings_of.Given as goal

-- the stages of the warnings so far
abbrev pub invariant-loop-text : goal.invariant-loop-text
invariant-loop-text l = stages_seen l.stages.items ≡ calls (flat_map (warning_steps l.prints l.listens) (take l.text-index l.text-items))
