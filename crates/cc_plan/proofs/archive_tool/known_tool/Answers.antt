use Rattle.std.proofs.Common.{refl}
use Rattle.cc_plan.proofs.HaltBy.{by_refused}
use Rattle.cc_plan.specs.ArchivePlan.{set_or_found}
use Rattle.cc_plan.proofs.archive_tool.known_tool.Goals as goal

pub returns-in_err-target : goal.returns-in_err-target
unfolding set_or_found
returns-in_err-target c = by_refused _ _ c.from_residual.result c.in_err-target.ensures.refused refl c.from_residual.ensures.1
