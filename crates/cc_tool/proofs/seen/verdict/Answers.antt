use Rattle.std.proofs.Common.{◌∷◌, [], ◌++◌, ap, ◌∙◌}
use Rattle.cc_tool.proofs.SeenLemmas.{wants_one}
use Rattle.cc_tool.proofs.seen.verdict.Goals as goal

pub returns-in_ok-push-in-None : goal.returns-in_ok-push-in-None
returns-in_ok-push-in-None c = record {
  answers = wants_one c.args.question c.as_asked-question.result c.push.new.self.items c.as_asked-question.ensures
      (c.in_ok-push-in-None.ensures.items ∙ ap (λ l. l ++ c.as_asked-question.result ∷ []) c.new-questions.ensures.items) c.in-None.ensures;
}
