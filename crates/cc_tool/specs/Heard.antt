-- What is heard of a question.
use Rattle.std.specs.Prelude.{List, [], ◌∷◌, Result, Ok, Err}
use Rattle.cc_text.specs.declared.memory.NoMemory.{NoMemory}
use Rattle.cc_host.specs.declared.question.Question.{Question}
use Rattle.cc_host.specs.Question.{Answer}
use Rattle.cc_tool.specs.declared.asking.Heard.{Heard}

-- the answer that is heard
abbrev pub heard_answer : Question → Result Heard NoMemory → List Answer
heard_answer q (Ok heard) = (q, heard.verdict) ∷ []
heard_answer q (Err e) = []
