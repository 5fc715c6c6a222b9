use Rattle.std.proofs.Common.{◌∙◌, sym, ap, ◌++◌, ◌∷◌, []}
use Rattle.cc_host.specs.Question.{exists_question}
use Rattle.cc_tool.proofs.AskLemmas.{exists_asks, copy_settles}
use Rattle.cc_tool.proofs.KnownLemmas.{settles_last}
use Rattle.cc_tool.proofs.asking.ask_exists.Goals as goal

pub returns-in-Some-clause-settles : goal.returns-in-Some-clause-settles
returns-in-Some-clause-settles g c = copy_settles c.try_clone.result c.of-key.result.question.now _ c.in-Some.verdict.now c.try_clone.ensures c.in-Some.ensures (c.of-key.ensures ∙ c.in_ok-question.ensures)

pub returns-in-Ok-clause-asks : goal.returns-in-Ok-clause-asks
returns-in-Ok-clause-asks g c = exists_asks c.args.path.now c.in-Ok.there c.of-key.result.question.now c.yes_if.result c.in-Ok.ensures.adds c.in-None.ensures (c.of-key.ensures ∙ c.in_ok-question.ensures) c.yes_if.ensures (c.end.ensures _ _ c.in_ok-begin.ensures.ok)

pub returns-in-Ok-clause-settles : goal.returns-in-Ok-clause-settles
returns-in-Ok-clause-settles g c =
    settles_last c.args.answers.now
    (c.end.ensures _ _ c.in_ok-begin.ensures.ok ∙ ap (λ p. c.args.answers.now ++ (p, c.yes_if.result) ∷ []) (c.of-key.ensures ∙ c.in_ok-question.ensures) ∙ ap (λ v. c.args.answers.now ++ (exists_question c.args.path.now, v) ∷ []) (c.yes_if.ensures ∙ sym c.yes_if-in-Ok.ensures))
