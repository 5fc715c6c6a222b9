use Rattle.std.proofs.Common.{◌∙◌, sym}
use Rattle.cc_flags.specs.Compilation.{seen}
use Rattle.cc_plan.specs.Support.{is_asked_of, flag_question}
use Rattle.cc_plan.proofs.SupportLemmas.{added_if, kept_if}
use Rattle.cc_plan.proofs.support.push_asked.Goals as goal

pub returns-in_ok-push-in-Some-2 : goal.returns-in_ok-push-in-Some-2
returns-in_ok-push-in-Some-2 c =
    let both =
    added_if (is_asked_of (seen c.args.given.now) c.args.word.now) c.args.word.now (flag_question (seen c.args.given.now)) c.args.asking.now.words c.push.new.self c.args.asking.now.questions.items c.push-in-Some.new.self.items
    (sym c.in-Some.is ∙ c.in_ok-question.ensures) c.in_ok-push-in-Some.ensures.ok c.in_ok-push-in-Some-2.ensures.items in
    record { words = both.0; questions = both.1 }

pub returns-in-None : goal.returns-in-None
returns-in-None c =
    let both = kept_if (is_asked_of (seen c.args.given.now) c.args.word.now) c.args.word.now (flag_question (seen c.args.given.now)) c.args.asking.now.words c.args.asking.now.questions.items (sym c.in-None.is ∙ c.in_ok-question.ensures) in
    record { words = both.0; questions = both.1 }
