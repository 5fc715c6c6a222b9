use Rattle.std.proofs.Common.{rules, arith, refl}
use Rattle.std.proofs.lemmas.Grind.{common_steps}
use Rattle.cc_plan.proofs.PassBy.{by_ok}
use Rattle.cc_plan.proofs.HaltBy.{by_allowed, by_refused, by_unless, by_want}
use Rattle.cc_plan.specs.ArchivePlan.{named_or_own}
use Rattle.cc_plan.proofs.archive_tool.own_or_refused.Goals as goal

pub returns-in_err-check_qnx_arch : goal.returns-in_err-check_qnx_arch
unfolding named_or_own
returns-in_err-check_qnx_arch c = by_refused _ _ c.from_residual.result c.in_err-check_qnx_arch.ensures.refused (first_of (search rules, cc, grind (arith, common_steps))) c.from_residual.ensures.1

pub returns-in_err-own : goal.returns-in_err-own
unfolding named_or_own
returns-in_err-own c = by_unless (let a = c.in_ok-check_qnx_arch.ensures.allowed in first_of (cc (a), grind (arith, common_steps, a))) (by_want _ _ c.from_residual-in_err-own.result c.in_err-own.ensures (search rules) c.from_residual-in_err-own.ensures.1)

pub returns : goal.returns
unfolding named_or_own
returns c = by_unless (let a = c.in_ok-check_qnx_arch.ensures.allowed in first_of (cc (a), grind (arith, common_steps, a))) (by_ok _ _ c.in_ok-own.ensures (search rules) (by_allowed refl))
