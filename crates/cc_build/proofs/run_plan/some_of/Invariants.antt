use Rattle.std.proofs.Common.{◌≡◌, ◌++◌, drop}
use Rattle.cc_build.specs.Way.{chosen}
use Rattle.cc_build.proofs.run_plan.some_of.Given as goal

-- those chosen so far, and those of the rest
abbrev pub invariant-loop-place : goal.invariant-loop-place
invariant-loop-place l = l.chosen.items ++ chosen (drop l.place l.choices) (drop l.place l.cmds) ≡ chosen l.choices l.cmds
