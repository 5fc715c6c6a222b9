-- The question of a compiler's C++ library is asked by a command.
use Rattle.std.proofs.Common.{◌≡◌, List, Result, refl, ap, ◌∙◌}
use Rattle.cc_text.specs.declared.memory.NoMemory.{NoMemory}
use Rattle.cc_host.specs.declared.event.Event.{Event}
use Rattle.cc_host.specs.declared.question.Question.{Question}
use Rattle.cc_host.specs.declared.question.Verdict.{Verdict}
use Rattle.cc_host.specs.Question.{Answer}
use Rattle.cc_tool.specs.Known.{asked}
use Rattle.cc_tool.specs.Libcxx as libcxx
use Rattle.cc_tool.specs.Libcxx.{libcxx_question}
use Rattle.cc_tool.specs.Own.{AnswersOnly, AnswersAmong}
use Rattle.cc_tool.specs.Tool.{ToolSeen}
use Rattle.cc_tool.proofs.OwnLemmas.{among_own}

pub asked_plain : (tool : ToolSeen) → asked (libcxx_question tool) ≡ libcxx_question tool
unfolding libcxx.libcxx_question
asked_plain tool = refl

-- a part that answers that question, and no other one
pub own_plain : (tool : ToolSeen) (q : Question) (known : List Answer) (part : List Event) (r : Result Verdict NoMemory) → q ≡ libcxx_question tool → AnswersOnly (asked q) known part r → AnswersAmong (λ p. p ≡ libcxx_question tool) part
own_plain tool q known part r e own = among_own (λ p. p ≡ libcxx_question tool) (asked q) known part r (ap asked e ∙ asked_plain tool) own
