use Rattle.std.proofs.Common.{rules, refl}
use Rattle.cc_plan.proofs.PassBy.{by_ok}
use Rattle.cc_plan.proofs.HaltBy.{by_allowed, by_want}
use Rattle.cc_plan.specs.ArchivePlan.{found_tool, named_or_own}
use Rattle.cc_plan.proofs.archive_tool.found_tool.Goals as goal

pub returns-in_err-choice : goal.returns-in_err-choice
unfolding found_tool named_or_own
returns-in_err-choice c = by_want _ _ c.from_residual.result c.in_err-choice.ensures (search rules) c.from_residual.ensures.1

pub returns-in-Some : goal.returns-in-Some
unfolding found_tool named_or_own
returns-in-Some c = by_ok _ _ c.in_ok-choice.ensures (search rules) (rw c.in-Some.is (by_allowed refl))
