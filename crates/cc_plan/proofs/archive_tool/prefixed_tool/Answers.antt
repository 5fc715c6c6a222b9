use Rattle.std.proofs.Common.{rules}
use Rattle.cc_plan.proofs.PassBy.{by_ok, pass_by}
use Rattle.cc_plan.specs.ArchiveTool.{prefixed_tool, plain_or_gcc}
use Rattle.cc_plan.proofs.archive_tool.prefixed_tool.Goals as goal

pub returns-in-Some : goal.returns-in-Some
unfolding prefixed_tool plain_or_gcc
returns-in-Some c = by_ok _ _ c.in_ok-name.ensures (search rules) (rw c.in-Some.is (search (pass_by, rules)))
