use Rattle.std.proofs.Common.{rules}
use Rattle.cc_plan.proofs.PassBy.{by_ok, pass_by}
use Rattle.cc_plan.specs.ArchiveTool.{studio_tool}
use Rattle.cc_plan.proofs.archive_tool.studio_tool.Goals as goal

pub returns-in-Some : goal.returns-in-Some
unfolding studio_tool
returns-in-Some c = by_ok _ _ c.in_ok-path.ensures (search rules) (search (pass_by, rules))

pub returns-in_ok-of-in-None : goal.returns-in_ok-of-in-None
unfolding studio_tool
returns-in_ok-of-in-None c = by_ok _ _ c.in_ok-path.ensures (search rules) (search (pass_by, rules))
