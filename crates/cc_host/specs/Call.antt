-- What a call did to its host: what it appended to the log, and what no call changes.
use Rattle.std.specs.Prelude.{◌≡◌, ◌≤◌, ℕ, List, Option}
use Rattle.cc_host.specs.Part.{since}
use Rattle.cc_host.specs.Question.{Look, answers, Holds}
use Rattle.cc_host.specs.declared.event.Event.{Event}

-- what a call appended to the log of its host
abbrev pub part : {X : Type 0} → (X → List Event) → X → X → List Event
part log old new = since (log old) (log new)

-- a fact of the verdicts, whichever agree with the answers that a call got
abbrev pub ByAnswers : {X : Type 0} → (X → List Event) → X → X → (Look → Type 0) → Type 0
ByAnswers log old new fact = Holds (answers (part log old new)) fact

-- the count of faults didn't fall, and the patience is the same
abbrev pub Keeps : {X : Type 0} → (X → ℕ) → (X → Option ℕ) → X → X → Type 0
Keeps faults patience old new = (faults old ≤ faults new) × (patience new ≡ patience old)
