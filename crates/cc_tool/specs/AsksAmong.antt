-- What a call that asks does, and which questions it asks.
use Rattle.std.specs.Prelude.{ℕ, Bool, List}
use Rattle.cc_host.specs.Part.{since}
use Rattle.cc_host.specs.Question.{Look, Answer}
use Rattle.cc_host.specs.declared.event.Event.{Event}
use Rattle.cc_host.specs.declared.question.Outcome.{Outcome}
use Rattle.cc_host.specs.declared.question.Question.{Question}
use Rattle.cc_tool.specs.Asks.{Asks}
use Rattle.cc_tool.specs.Own.{Wanted}

-- A call asks, and whichever verdicts agree with its answers, each question is one of these.
pub record AsksAmong (steady : Bool) (world : Question → Outcome) (dir : List ℕ) (questions : Look → Question → Type 0) (before after : List Event) (old new : List Answer) : Type 0 where
  pub asks : Asks steady world dir before after old new
  pub own : Wanted questions new (since before after)
