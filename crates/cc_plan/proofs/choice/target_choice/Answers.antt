use Rattle.std.proofs.Common.{rules}
use Rattle.cc_plan.specs.Choice.{target_choice}
use Rattle.cc_plan.proofs.PassBy.{by_ok, pass_by}
use Rattle.cc_plan.proofs.choice.target_choice.Goals as goal

pub returns : goal.returns
unfolding target_choice
returns c = by_ok _ _ c.in_ok-path.ensures (search rules) (search (pass_by, rules))
