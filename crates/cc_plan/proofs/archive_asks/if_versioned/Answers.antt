use Rattle.std.proofs.Common.{rules}
use Rattle.cc_plan.proofs.PassBy.{by_ok, pass_by}
use Rattle.cc_plan.specs.ArchiveTool.{if_versioned}
use Rattle.cc_plan.proofs.archive_asks.if_versioned.Goals as goal

pub returns-then-branch : goal.returns-then-branch
unfolding if_versioned
returns-then-branch c = by_ok _ _ c.in_ok-is_versioned.ensures (search rules) (search (pass_by, rules))

pub returns-else-branch : goal.returns-else-branch
unfolding if_versioned
returns-else-branch c = by_ok _ _ c.in_ok-is_versioned.ensures (search rules) (search (pass_by, rules))
