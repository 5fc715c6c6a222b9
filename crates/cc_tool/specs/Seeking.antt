-- Searches for a file among several.
use Rattle.std.specs.Prelude.{ℕ, List, Option, option_map}
use Rattle.cc_host.specs.Question.{exists_question}
use Rattle.cc_host.specs.declared.question.Question.{Question}
use Rattle.cc_tool.specs.Plans.{Plan, bind, done, seek}

-- whether the first of a pair is the path of a file
abbrev pub by_first : List ℕ × List ℕ → Question
by_first pair = exists_question pair.0

-- the second of the first pair for which it is
unfoldable pub first_shown : List (List ℕ × List ℕ) → Plan (Option (List ℕ))
first_shown pairs = bind (seek by_first pairs) (λ found. done (option_map (λ p. p.1) found))
