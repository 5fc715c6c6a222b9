use Rattle.std.proofs.Common.{refl, rules, arith}
use Rattle.std.proofs.lemmas.Grind.{common_steps}
use Rattle.cc_plan.specs.FlagSupport.{support_with}
use Rattle.cc_plan.proofs.HaltBy.{by_allowed, by_allowing, by_halt}
use Rattle.cc_plan.proofs.flag_verdict.support_with.Goals as goal

pub returns-in_err-verdict : goal.returns-in_err-verdict
unfolding support_with
returns-in_err-verdict c = by_halt _ _ c.in_err-verdict.field-0.0 c.from_residual.result c.in_err-verdict.ensures refl c.from_residual.ensures.1

pub returns : goal.returns
unfolding support_with
returns c = by_allowing _ _ c.in_ok-verdict.ensures refl (by_allowed (first_of (search rules, cc, grind (arith, common_steps))))
