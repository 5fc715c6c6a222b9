use Rattle.cc_host.specs.Question.{is_yes}
use Rattle.cc_host.specs.declared.question.Ask.TheVariants.{HelpFlag}
use Rattle.cc_tool.specs.Family.{question, detected_by, found, family_of_marks}
use Rattle.cc_tool.specs.Plans.{ask, done}
use Rattle.cc_tool.proofs.PassLemmas.{pass_ok, pass_done, pass_try}
use Rattle.cc_tool.proofs.family.detected_by.Goals as goal

pub returns-in_err-help-in-Some : goal.returns-in_err-help-in-Some
unfolding detected_by
returns-in_err-help-in-Some c =
    rw c.in-Some.is
    (pass_try (ask (question HelpFlag c.args.path.now c.args.args.now c.args.vars.now)) (λ help. done (found (family_of_marks (is_yes help) c.in-Some.marks))) c.from_residual.result c.from_residual.ensures.1 c.in_err-help-in-Some.ensures)

pub returns-in_ok-help-in-Some : goal.returns-in_ok-help-in-Some
unfolding detected_by
returns-in_ok-help-in-Some c =
    rw (c.in-Some.is, c.found.ensures, c.family_of_marks.ensures, c.is_yes.ensures)
    (pass_ok (ask (question HelpFlag c.args.path.now c.args.args.now c.args.vars.now)) (λ help. done (found (family_of_marks (is_yes help) c.in-Some.marks))) c.in_ok-help-in-Some.ensures pass_done)
