use Rattle.std.proofs.Common.{refl}
use Rattle.cc_plan.specs.FlagSupport.{pair_plan}
use Rattle.cc_plan.proofs.HaltBy.{by_allowed, by_refused, by_unless, by_want}
use Rattle.cc_plan.proofs.PassBy.{by_ok}
use Rattle.cc_plan.proofs.flag_verdict.plan_pair.Goals as goal

pub returns-in_err-target : goal.returns-in_err-target
unfolding pair_plan
returns-in_err-target c = by_refused _ _ c.from_residual.result c.in_err-target.ensures.refused refl c.from_residual.ensures.1

pub returns-in_err-pair : goal.returns-in_err-pair
unfolding pair_plan
returns-in_err-pair c = by_unless c.in_ok-target.ensures.allowed (by_want _ _ c.from_residual-in_err-pair.result c.in_err-pair.ensures refl c.from_residual-in_err-pair.ensures.1)

pub returns : goal.returns
unfolding pair_plan
returns c = by_unless c.in_ok-target.ensures.allowed (by_ok _ _ c.in_ok-pair.ensures refl (by_allowed refl))
