-- Questions with their verdicts: those of one public call, and those that are kept of a world.
use Rattle.std.specs.Prelude.{◌≡◌, ◌≢◌, ℕ, Bool, true, false, List, Some, slice_get, take}
use Rattle.std.specs.List.{All}
use Rattle.cc_host.specs.declared.question.Ask.{Ask}
use Rattle.cc_host.specs.declared.question.Ask.TheVariants.{Exists as AsksExists}
use Rattle.cc_host.specs.declared.question.Outcome.{Outcome}
use Rattle.cc_host.specs.declared.question.Question.{Question}
use Rattle.cc_host.specs.declared.question.Verdict.{Verdict}
use Rattle.cc_host.specs.declared.question.Verdict.TheVariants.{Unanswered, Missing}
use Rattle.cc_host.specs.Question.{Answer, Lacks, exists_question}
use Rattle.cc_host.specs.Verdict.{verdict_of}

-- the first answer to the question has this verdict
pub record Has (known : List Answer) (q : Question) (v : Verdict) : Type 0 where
  pub place : ℕ
  pub here : slice_get known place ≡ Some (q, v)
  pub first : Lacks (take place known) q

-- where the world is steady, the verdict is the world's
abbrev pub IsSteady : Bool → (Question → Outcome) → Question → Verdict → Type 0
IsSteady steady world q v = steady ≡ true → v ≡ verdict_of q (world q)

-- so is a verdict that was heard, unless the question has no answer
abbrev pub IsHeard : Bool → (Question → Outcome) → Question → Verdict → Type 0
IsHeard steady world q v = v ≢ Unanswered → IsSteady steady world q v

-- where the world is steady, each verdict is the world's
abbrev pub AllSteady : Bool → (Question → Outcome) → List Answer → Type 0
AllSteady steady world known = steady ≡ true → All (λ a. a.1 ≡ verdict_of a.0 (world a.0)) known

-- a question as it is asked: one for a file has neither words nor variables
abbrev pub as_asked : Ask → Question → Question
as_asked AsksExists q = exists_question q.program
as_asked _ q = q

abbrev pub asked : Question → Question
asked q = as_asked q.ask q

-- a verdict that is kept: each but those of a question that had no answer and of a program that can't be found
abbrev pub is_kept : Verdict → Bool
is_kept Unanswered = false
is_kept Missing = false
is_kept _ = true

-- the caches keep such a verdict of this question, which isn't for a file
abbrev pub MayKeep : Question → Verdict → Type 0
MayKeep q v = (is_kept v ≡ true) × (q.ask ≢ AsksExists)

-- the caches may keep each of these
abbrev pub AllKept : List Answer → Type 0
AllKept known = All (λ a. MayKeep a.0 a.1) known
