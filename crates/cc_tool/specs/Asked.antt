-- What the questions of a whole call leave in its part of the log.
use Rattle.std.specs.Prelude.{◌≡◌, ℕ, Bool, true, false, List, [], ◌∷◌, None, if◌then◌else◌}
use Rattle.std.specs.List.{All, flat_map}
use Rattle.cc_host.specs.declared.event.Event.{Event}
use Rattle.cc_host.specs.declared.question.Outcome.{Outcome}
use Rattle.cc_host.specs.declared.question.Question.{Question}
use Rattle.cc_host.specs.Probe.{opens, drops}
use Rattle.cc_host.specs.Question.{Look, answers, NoTwice, Holds}
use Rattle.cc_tool.specs.Asks.{IsWorlds}
use Rattle.cc_tool.specs.Excused.{Excused}
use Rattle.cc_tool.specs.Founded.{Founded}
use Rattle.cc_tool.specs.Own.{AnswersAmong}
use Rattle.cc_tool.specs.Probing.{is_asked, Follows, Stand, stand}

abbrev pub question_event : Event → List Event
question_event event = if is_asked event then event ∷ [] else []

-- the events that questions leave, in order
abbrev pub question_events : List Event → List Event
question_events = flat_map question_event

-- no word was drawn right before, and no probe file stands
abbrev pub start : Stand
start = record { word = None; files = [] }

-- No question is told twice. Each probe file was made in this folder by a word drawn right before, with its own contents, and dropped. Each question
-- was asked with the files that it needs, and each that has no answer has its cause. What was told from earlier is a verdict that the caches
-- keep, of a question that isn't for a file. In a steady world each verdict is the world's. Whichever verdicts agree with the answers, each
-- question is one that is asked under them.
pub record Asked (steady : Bool) (world : Question → Outcome) (dir : List ℕ) (asks : Look → Question → Type 0) (part : List Event) : Type 0 where
  pub once : NoTwice (answers part)
  pub closed : drops part ≡ opens part
  pub excused : Excused 0 part
  pub founded : Founded false part
  pub probing : Follows dir start part
  pub dropped : (stand start part).files ≡ []
  pub honest : steady ≡ true → All (IsWorlds world) (answers part)
  pub own : Holds (answers part) (λ look. AnswersAmong (asks look) part)
