use Rattle.std.proofs.Common.{rules}
use Rattle.cc_plan.proofs.HaltBy.{by_halt}
use Rattle.cc_plan.specs.ArchivePlan.{tool_plan}
use Rattle.cc_plan.proofs.archive.plan_archive_tool.Goals as goal

pub returns-in_err-choice : goal.returns-in_err-choice
unfolding tool_plan
returns-in_err-choice c = by_halt _ _ c.in_err-choice.field-0.0 c.from_residual.result c.in_err-choice.ensures (search rules) c.from_residual.ensures.1
