-- Calls that ask and do nothing else.
use Rattle.std.specs.Prelude.{◌≡◌, ℕ, Bool, List, Option}
use Rattle.cc_host.specs.Part.{since}
use Rattle.cc_host.specs.Question.{Look, Holds}
use Rattle.cc_host.specs.declared.event.Event.{Event}
use Rattle.cc_host.specs.declared.host.World.{Ghosts}
use Rattle.cc_host.specs.declared.question.Outcome.{Outcome}
use Rattle.cc_host.specs.declared.question.Question.{Question}
use Rattle.cc_tool.specs.Asks.{Asks}
use Rattle.cc_tool.specs.Own.{AnswersAmong}
use Rattle.cc_plan.specs.declared.sight.Sight.{Sight}

-- A call asks, and does nothing else: its host, its answers and its folder are those that it was lent, log and answers
-- went on by its questions, whose probe files are in the folder, and the host is as patient as before. Whichever
-- verdicts agree with its answers, each question is one that is asked under them.
pub record OnlyAsks {W H : Type 0} {ghosts : Ghosts W} (steady : Bool) (world : Question → Outcome)
    (log : H → List Event) (patience : H → Option ℕ) (questions : Look → Question → Type 0)
    (old new : Sight W H ghosts) : Type 0 where
  pub same_host : new.host.ghost_name ≡ old.host.ghost_name
  pub same_answers : new.answers.ghost_name ≡ old.answers.ghost_name
  pub same_dir : new.dir.now ≡ old.dir.now
  pub asks : Asks steady world old.dir.now (log old.host.now) (log new.host.now) old.answers.now new.answers.now
  pub own : Holds new.answers.now (λ look. AnswersAmong (questions look) (since (log old.host.now) (log new.host.now)))
  pub patient : patience new.host.now ≡ patience old.host.now
