use Rattle.std.proofs.Common.{ap, []}
use Rattle.cc_host.specs.declared.question.Ask.TheVariants.{Preprocess}
use Rattle.cc_tool.specs.Family.{question, shown, shown_again}
use Rattle.cc_tool.specs.Plans.{ask}
use Rattle.cc_tool.proofs.PassLemmas.{pass_as, pass_try}
use Rattle.cc_tool.proofs.family.shown.Goals as goal

pub returns-in_err-first : goal.returns-in_err-first
unfolding shown
returns-in_err-first c =
    pass_try (ask (question Preprocess c.args.path.now [] c.args.vars.now)) (shown_again c.args.path.now c.args.vars.now) c.from_residual.result c.from_residual.ensures.1
    (pass_as (ap (λ words. ask (question Preprocess c.args.path.now words c.args.vars.now)) c.new-none.ensures) c.in_err-first.ensures)
