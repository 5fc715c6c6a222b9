use Rattle.std.proofs.Common.{rules, arith}
use Rattle.std.proofs.lemmas.Grind.{common_steps}
use Rattle.cc_plan.proofs.PassBy.{by_ok, by_done}
use Rattle.cc_plan.specs.ArchiveTool.{own_choice}
use Rattle.cc_plan.proofs.archive_tool.own_choice.Goals as goal

pub returns : goal.returns
unfolding own_choice
returns c = by_ok _ _ c.in_ok-path.ensures (search rules) (by_done (first_of (search rules, cc, grind (arith, common_steps))))
