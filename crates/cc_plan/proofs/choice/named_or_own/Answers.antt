use Rattle.std.proofs.Common.{rules}
use Rattle.cc_tool.specs.Plans.{or_else}
use Rattle.cc_plan.specs.Choice.{named_or_own}
use Rattle.cc_plan.proofs.PassBy.{by_ok, pass_by}
use Rattle.cc_plan.proofs.choice.named_or_own.Goals as goal

pub returns-in-Some : goal.returns-in-Some
unfolding named_or_own or_else
returns-in-Some c = by_ok _ _ c.in_ok-choice.ensures (search rules) (rw c.in-Some.is (search (pass_by, rules)))
