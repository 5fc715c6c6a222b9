use Rattle.std.proofs.Common.{refl}
use Rattle.cc_plan.specs.FlagSupport.{support_plan}
use Rattle.cc_plan.proofs.HaltBy.{by_halt}
use Rattle.cc_plan.proofs.flag_verdict.planned_support.Goals as goal

pub returns-in_err-pair : goal.returns-in_err-pair
unfolding support_plan
returns-in_err-pair c = by_halt _ _ c.in_err-pair.field-0.0 c.from_residual.result c.in_err-pair.ensures refl c.from_residual.ensures.1
