-- Plans: what is planned, as a function of all verdicts, with the questions that are asked for it and what is noted on the way.
use Rattle.std.specs.Prelude.{◌≡◌, ◌++◌, Bool, if◌then◌else◌, List, [], ◌∷◌, Option, Some, None, Result, Ok, Err, map, find, fold, drop}
use Rattle.std.specs.List.{Contains}
use Rattle.cc_host.specs.Question.{Look, Answer, Agrees, Lacks, is_yes}
use Rattle.cc_host.specs.declared.question.Question.{Question}
use Rattle.cc_host.specs.declared.question.Verdict.{Verdict}
use Rattle.cc_tool.specs.Known.{asked, Has}
use Rattle.cc_tool.specs.Notes.{Note, Noted, add_note, no_notes}
use Rattle.cc_tool.specs.declared.planner.Found.{Found}
use Rattle.cc_tool.specs.declared.want.Want.{Want}
use Rattle.cc_tool.specs.declared.want.Want.TheVariants.{Ask, NoMemory}

-- what is planned, the questions that are asked for it, in order, and what is noted
pub record Plan (X : Type 0) : Type 0 where
  pub value : Look → X
  pub asks : Look → List Question
  pub notes : Look → List Note

-- a value that asks nothing
unfoldable pub done : {X : Type 0} → X → Plan X
done x = record { value = λ look. x; asks = λ look. []; notes = λ look. [] }

-- the verdict of a question
unfoldable pub ask : Question → Plan Verdict
ask q = record { value = λ look. look (asked q); asks = λ look. asked q ∷ []; notes = λ look. [] }

-- the verdicts of questions, which wait for none of each other
unfoldable pub ask_all : List Question → Plan (List Verdict)
ask_all qs = record { value = λ look. map look qs; asks = λ look. qs; notes = λ look. [] }

-- the questions up to the first that says yes
abbrev pub until_yes : Look → List Question → List Question
until_yes look [] = []
until_yes look (q ∷ qs) = q ∷ (if is_yes (look q) then [] else until_yes look qs)

abbrev pub says_yes : {X : Type 0} → (X → Question) → Look → X → Bool
says_yes question look x = is_yes (look (question x))

-- the first whose question says yes
unfoldable pub seek : {X : Type 0} → (X → Question) → List X → Plan (Option X)
seek question xs = record {
  value = λ look. find (says_yes question look) xs;
  asks = λ look. until_yes look (map question xs);
  notes = λ look. [];
}

-- something is noted
unfoldable pub note : List Note → Plan (Unit {0})
note notes = record { value = λ look. tt; asks = λ look. []; notes = λ look. notes }

-- one plan, and then another by its value
unfoldable pub bind : {X Y : Type 0} → Plan X → (X → Plan Y) → Plan Y
bind p k = record {
  value = λ look. (k (p.value look)).value look;
  asks = λ look. p.asks look ++ (k (p.value look)).asks look;
  notes = λ look. p.notes look ++ (k (p.value look)).notes look;
}

-- what was found, else what another plan gives
unfoldable pub or_else : {X : Type 0} → Plan X → Option X → Plan X
or_else other (Some x) = done x
or_else other None = other

-- a plan whose notes nobody is told of
unfoldable pub unnoted : {X : Type 0} → Plan X → Plan X
unnoted p = record { value = p.value; asks = p.asks; notes = λ look. [] }

-- The value and the notes that the answers settle, whatever else is answered. The notes are added to those before.
pub record Settled {X : Type 0} (known : List Answer) (before after : Noted) (p : Plan X) (x : X) : Type 0 where
  pub noted : List Note
  pub added : after ≡ fold add_note before noted
  pub is : (look : Look) → Agrees look known → p.value look ≡ x
  pub notes : (look : Look) → Agrees look known → p.notes look ≡ noted

-- each of the questions is among these
abbrev pub Among : List Question → List Question → Type 0
Among all [] = Unit {0}
Among all (q ∷ qs) = Contains all q × Among all qs

-- those that are asked of some questions: all of them, or those up to the first that says yes
abbrev pub reached : Bool → Look → List Question → List Question
reached first look qs = if first then until_yes look qs else qs

-- a question is asked as it is: one for a file has neither words nor variables
abbrev pub ArePlain : List Question → Type 0
ArePlain [] = Unit {0}
ArePlain (q ∷ qs) = (asked q ≡ q) × ArePlain qs

-- the first of some questions isn't answered yet
abbrev pub Opens : List Answer → List Question → Type 0
Opens known [] = ⊥
Opens known (q ∷ qs) = Lacks known q

-- Questions of which the first isn't answered yet, and which the plan asks.
pub record Wants {X : Type 0} (known : List Answer) (p : Plan X) (first : Bool) (qs : List Question) : Type 0 where
  pub opens : Opens known qs
  pub plain : ArePlain qs
  pub own : (look : Look) → Agrees look known → Among (p.asks look) (reached first look qs)

abbrev pub IsAnswer : {X : Type 0} → List Answer → Noted → Noted → Plan X → Result X Want → Type 0
IsAnswer known before after p (Ok x) = Settled known before after p x
IsAnswer known before after p (Err (Ask wanted)) = Wants known p wanted.first (drop wanted.from wanted.questions.items)
IsAnswer known before after p (Err NoMemory) = Unit {0}

-- A pass over a plan: it answers the value that the answers settle, or the questions that it wants, or wants memory. What was noted is added.
pub record Passes {X : Type 0} (known : List Answer) (before after : Noted) (p : Plan X) (result : Result X Want) : Type 0 where
  pub answers : IsAnswer known before after p result

-- whether the answer to a question is yes, where it has one
abbrev pub IsKnown : List Answer → Question → Option Bool → Type 0
IsKnown known q None = Lacks known q
IsKnown known q (Some there) = (v : Verdict) × (Has known q v × (there ≡ is_yes v))

-- one of the questions that a plan asks, under these verdicts
abbrev pub PlanAsks : {X : Type 0} → Plan X → Look → Question → Type 0
PlanAsks p look q = Contains (p.asks look) q

-- what came of a plan: the value and the notes that the answers settle
abbrev pub IsFound : {X : Type 0} → List Answer → Plan X → Found X → Type 0
IsFound known p found = Settled known no_notes found.notes p found.value
