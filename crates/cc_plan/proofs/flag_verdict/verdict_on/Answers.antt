use Rattle.std.proofs.Common.{◌≡◌, ◌∙◌, false, refl, sym, ap}
use Rattle.cc_tool.specs.Plans.{ask}
use Rattle.cc_plan.specs.FlagSupport.{verdict_plan}
use Rattle.cc_plan.specs.Support.{is_for_linker}
use Rattle.cc_plan.proofs.HaltBy.{by_allowed, by_refused, by_unless, by_want}
use Rattle.cc_plan.proofs.PassBy.{by_ok}
use Rattle.cc_plan.proofs.flag_verdict.verdict_on.Goals as goal

pub returns-in_err-question : goal.returns-in_err-question
unfolding verdict_plan
returns-in_err-question c =
    let off : is_for_linker c.args.given.now.compiler.now.family c.args.flag.now ≡ false = sym c.is_for_linker.ensures ∙ c.if-is_for_linker.false in
    rw off (by_refused _ _ c.from_residual.result c.in_err-question.ensures.refused refl c.from_residual.ensures.1)

pub returns-in_err-verdict : goal.returns-in_err-verdict
unfolding verdict_plan
returns-in_err-verdict c =
    let off : is_for_linker c.args.given.now.compiler.now.family c.args.flag.now ≡ false = sym c.is_for_linker.ensures ∙ c.if-is_for_linker.false in
    rw off (by_unless c.in_ok-question.ensures.allowed (by_want _ _ c.from_residual-in_err-verdict.result c.in_err-verdict.ensures (ap ask c.in_ok-question.ensures.question) c.from_residual-in_err-verdict.ensures.1))

pub returns : goal.returns
unfolding verdict_plan
returns c =
    let off : is_for_linker c.args.given.now.compiler.now.family c.args.flag.now ≡ false = sym c.is_for_linker.ensures ∙ c.if-is_for_linker.false in
    rw off (by_unless c.in_ok-question.ensures.allowed (by_ok _ _ c.in_ok-verdict.ensures (ap ask c.in_ok-question.ensures.question) (by_allowed refl)))
