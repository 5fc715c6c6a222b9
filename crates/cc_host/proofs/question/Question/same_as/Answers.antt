use Rattle.cc_host.proofs.QuestionLemmas.{same_question}
use Rattle.cc_host.proofs.question.Question.same_as.Goals as goal

pub returns : goal.returns
returns c = same_question c.args.self.now c.args.other.now c.all.result c.is_same_ask-ask.result c.eq-program.result c.eq-words.result c.eq-vars.result c.is_same_ask-ask.ensures c.eq-program.ensures c.eq-words.ensures c.eq-vars.ensures c.all.ensures
