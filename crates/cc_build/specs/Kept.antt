-- What a call of a run leaves as it was, and what it does beside its stages.
use Rattle.std.specs.Prelude.{ℕ, Bool, true, false, ◌≡◌, List, [], ◌++◌, Option}
use Rattle.std.specs.List.{All}
use Rattle.cc_host.specs.Call.{part}
use Rattle.cc_host.specs.declared.event.Event.{Event}
use Rattle.cc_host.specs.Probe.{opens, drops}
use Rattle.cc_host.specs.Question.{Look, Answer, answers, NoTwice, Holds}
use Rattle.cc_host.specs.declared.question.Outcome.{Outcome}
use Rattle.cc_host.specs.declared.question.Question.{Question}
use Rattle.cc_flags.specs.Given.{probe_folder}
use Rattle.cc_plan.specs.Questions.{RunAsks, NameAsks}
use Rattle.cc_flags.specs.declared.variables.Reads.{Reads}
use Rattle.cc_run.specs.declared.planned.Turns.{Turns}
use Rattle.cc_tool.specs.Asked.{question_events, start}
use Rattle.cc_tool.specs.Asks.{IsWorlds}
use Rattle.cc_tool.specs.Excused.{Excused}
use Rattle.cc_tool.specs.Founded.{Founded}
use Rattle.cc_tool.specs.Own.{AnswersAmong}
use Rattle.cc_tool.specs.Probing.{Follows, stand}
use Rattle.cc_build.specs.declared.task.Task.{Task}
use Rattle.cc_build.specs.Went.{Means, means}

-- the log only grew, by no question, and the patience of the host is the same
pub record Aside {X : Type 0} (log : X → List Event) (patience : X → Option ℕ) (old new : X) : Type 0 where
  pub patient : patience new ≡ patience old
  pub extends : log new ≡ log old ++ part log old new
  pub asks_none : question_events (part log old new) ≡ []

-- what is left of the turns and of a seat
abbrev pub left_at : {S : Type 0} → (S → ℕ) → (S → ℕ) → (S → ℕ) → Turns → S → Means
left_at faults taken load turns seat = means turns.left (faults seat) (taken seat) (load seat)

-- What the questions of a part leave, among other events: the answers of the call went on by those that the part gives,
-- no question was asked a second time, and each is one of these, whichever verdicts agree with the answers.
pub record AsksOn (steady : Bool) (world : Question → Outcome) (dir : List ℕ)
    (questions : Look → Question → Type 0) (part : List Event) (old new : List Answer) : Type 0 where
  pub answered : new ≡ old ++ answers part
  pub once : NoTwice old → NoTwice new
  pub closed : drops part ≡ opens part
  pub excused : Excused 0 part
  pub founded : Founded false part
  pub probing : Follows dir start part
  pub dropped : (stand start part).files ≡ []
  pub honest : steady ≡ true → All (IsWorlds world) (answers part)
  pub own : Holds new (λ look. AnswersAmong (questions look) part)

-- the log only grew, by questions among other events, and the patience of the host is the same
pub record Asking {X : Type 0} (steady : Bool) (world : Question → Outcome) (dir : List ℕ)
    (questions : Look → Question → Type 0) (log : X → List Event) (patience : X → Option ℕ) (old new : X)
    (known known' : List Answer) : Type 0 where
  pub patient : patience new ≡ patience old
  pub extends : log new ≡ log old ++ part log old new
  pub asks : AsksOn steady world dir questions (part log old new) known known'

-- the same, where the questions are those of a run
abbrev pub AsksFor : {X : Type 0} → Bool → (Question → Outcome) → Task → (X → List Event) → (X → Option ℕ) → X → X
    → List Answer → List Answer → Type 0
AsksFor steady world task log patience =
    Asking steady world (probe_folder task.set.now task.env.now) (RunAsks task.set.now task.env.now) log patience

-- the same, where they are those that the names of variables are planned by
abbrev pub AsksForNames : {X : Type 0} → Bool → (Question → Outcome) → Task → Reads → (X → List Event)
    → (X → Option ℕ) → X → X → List Answer → List Answer → Type 0
AsksForNames steady world task reads log patience =
    Asking steady world (probe_folder task.set.now task.env.now) (NameAsks reads task.set.now task.env.now) log patience
