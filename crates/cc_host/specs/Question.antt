-- Questions, the verdicts of their outcomes, and what the answers of a part settle.
use Rattle.std.specs.Prelude.{◌≡◌, ◌≢◌, ℕ, List, [], ◌∷◌, Bool, true, false}
use Rattle.std.specs.List.{flat_map}
use Rattle.cc_host.specs.declared.question.Ask.TheVariants.{Exists as AsksExists}
use Rattle.cc_host.specs.declared.question.Question.{Question}
use Rattle.cc_host.specs.declared.question.Verdict.{Verdict}
use Rattle.cc_host.specs.declared.question.Verdict.TheVariants.{Unanswered, Yes}
use Rattle.cc_host.specs.declared.event.Event.{Event}
use Rattle.cc_host.specs.declared.event.Event.TheVariants.{Answered, Reused, Unasked}
use Rattle.cc_host.specs.Verdict.{verdict_of}

-- whether a file of this path is there
abbrev pub exists_question : List ℕ → Question
exists_question path = record { ask = AsksExists; program = path; words = []; vars = [] }

-- a verdict for each question
abbrev pub Look : Type 0
Look = Question → Verdict

abbrev pub is_yes : Verdict → Bool
is_yes Yes = true
is_yes _ = false

-- a question with its verdict
abbrev pub Answer : Type 0
Answer = Question × Verdict

-- what is learned from an event: an answered question has its outcome's verdict, a reused one its own, and one that couldn't be asked is unanswered
abbrev pub answer_of : Event → List Answer
answer_of (Answered question files outcome) = (question, verdict_of question outcome) ∷ []
answer_of (Reused question verdict) = (question, verdict) ∷ []
answer_of (Unasked question) = (question, Unanswered) ∷ []
answer_of _ = []

-- the questions of a part with their verdicts, in order
abbrev pub answers : List Event → List Answer
answers = flat_map answer_of

-- these verdicts are those of the answers
abbrev pub Agrees : Look → List Answer → Type 0
Agrees look [] = Unit {0}
Agrees look (a ∷ rest) = (look a.0 ≡ a.1) × Agrees look rest

-- The answers settle a value: under all verdicts that agree with them it is the same.
pub record Settles {X : Type 0} (known : List Answer) (f : Look → X) (x : X) : Type 0 where
  pub is : (look : Look) → Agrees look known → f look ≡ x

-- a fact under all verdicts that agree with the answers
pub record Holds (known : List Answer) (P : Look → Type 0) : Type 0 where
  pub under : (look : Look) → Agrees look known → P look

-- the question isn't among the answers
abbrev pub Lacks : List Answer → Question → Type 0
Lacks [] q = Unit {0}
Lacks (a ∷ rest) q = (a.0 ≢ q) × Lacks rest q

-- no question has two answers
abbrev pub NoTwice : List Answer → Type 0
NoTwice [] = Unit {0}
NoTwice (a ∷ rest) = Lacks rest a.0 × NoTwice rest
