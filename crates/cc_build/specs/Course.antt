-- How a run goes, by what is seen of its host and of the seat of its pool before and behind it.
use Rattle.std.specs.Prelude.{ℕ, List, Option, None, Some, Result}
use Rattle.cc_host.specs.Call.{part, ByAnswers}
use Rattle.cc_host.specs.Part.{Step}
use Rattle.cc_host.specs.Question.{Look}
use Rattle.cc_host.specs.declared.event.Event.{Event}
use Rattle.cc_run.specs.declared.planned.Shows.{Shows}
use Rattle.cc_build.specs.Error.{ErrorSeen}
use Rattle.cc_build.specs.Stage.{Stage, calls}
use Rattle.cc_build.specs.Went.{Terms, Means, terms, means, Ends}

-- the total of the pool and the patience of the host, where they are known, and what was left of the means before and
-- behind the run
pub record Course : Type 0 where
  pub total : Option ℕ
  pub patience : Option ℕ
  pub before : Means
  pub after : Means

abbrev pub course : Option ℕ → Option ℕ → Means → Means → Course
course total patience before after = record { total = total; patience = patience; before = before; after = after }

-- The course of a call that runs its commands one after another. It takes no token: it has a pool of its own, of one.
abbrev pub course_alone : Option ℕ → ℕ → ℕ → Course
course_alone patience given left = course (Some 1) patience (means given 0 0 0) (means left 0 0 0)

-- a fact of the part and the course of a call, whose host and seat are viewed so, with this many turns left before and
-- behind it
abbrev pub OnCourse : {X S : Type 0} → (X → List Event) → (X → Option ℕ) → (S → Option ℕ) → (S → ℕ) → (S → ℕ)
    → (S → ℕ) → ℕ → ℕ → X → X → S → S → (List Event → Course → Type 0) → Type 0
OnCourse log patience total faults taken load given left host host' seat seat' fact =
    fact (part log host host')
    (course (total seat) (patience host) (means given (faults seat) (taken seat) (load seat))
    (means left (faults seat') (taken seat') (load seat')))

-- the same of a call that is given so many turns and asks, whichever verdicts agree with what it was answered: it
-- leaves some of the turns
abbrev pub ByRun : {X S : Type 0} → (X → List Event) → (X → Option ℕ) → (S → Option ℕ) → (S → ℕ) → (S → ℕ)
    → (S → ℕ) → ℕ → X → X → S → S → (Look → List Event → Course → Type 0) → Type 0
ByRun log patience total faults taken load given host host' seat seat' fact =
    ByAnswers log host host'
    (λ look. (left : ℕ)
    × OnCourse log patience total faults taken load given left host host' seat seat' (fact look))

-- these stages were done, or the error has its cause
abbrev pub Does : {T : Type 0} → Shows → List Stage → Result T ErrorSeen → List Event → Course → Type 0
Does shows stages result part c = Ends (terms shows c.total c.patience) None stages part result c.before c.after

-- the same of stages that take no token, whatever the pool and its seat
abbrev pub DoesAlone : {X T : Type 0} → (X → List Event) → (X → Option ℕ) → ℕ → ℕ → X → X → Shows → List Stage
    → Result T ErrorSeen → Type 0
DoesAlone log patience given left host host' shows stages result =
    (total : Option ℕ) (faults taken load : ℕ)
    → Ends (terms shows total (patience host)) None stages (part log host host') result
    (means given faults taken load) (means left faults taken load)

-- these calls of the host were made, or the error has its cause, whatever the terms and the means
abbrev pub CallsEnd : {T : Type 0} → List Step → List Event → Result T ErrorSeen → Type 0
CallsEnd steps part result = (t : Terms) (x : Means) → Ends t None (calls steps) part result x x

-- a fact of the part of a call that asks, whichever verdicts agree with what it was answered
abbrev pub ByPart : {X : Type 0} → (X → List Event) → X → X → (Look → List Event → Type 0) → Type 0
ByPart log host host' fact = ByAnswers log host host' (λ look. fact look (part log host host'))
