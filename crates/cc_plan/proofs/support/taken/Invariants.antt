use Rattle.std.proofs.Common.{◌≡◌, ◌++◌, drop}
use Rattle.cc_plan.specs.Support.{taken}
use Rattle.cc_plan.proofs.support.taken.Given as goal

abbrev pub invariant-loop-place : goal.invariant-loop-place
invariant-loop-place l = l.taken ++ taken (drop l.place l.words) (drop l.place l.verdicts) ≡ taken l.words l.verdicts
