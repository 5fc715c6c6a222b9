use Rattle.std.proofs.Common.{rules}
use Rattle.cc_plan.proofs.PassBy.{by_ok, pass_by}
use Rattle.cc_plan.specs.ArchiveTool.{cross_tool, tool_behind}
use Rattle.cc_plan.proofs.archive_tool.cross_tool.Goals as goal

pub returns-in-None : goal.returns-in-None
unfolding cross_tool tool_behind
returns-in-None c = by_ok _ _ c.in_ok-prefix.ensures (search rules) (rw c.in-None.is (search (pass_by, rules)))
