-- What a call that asks does to the log of its host and to the answers of its public call.
use Rattle.std.specs.Prelude.{◌≡◌, ◌≢◌, ◌++◌, ℕ, Bool, true, false, List, [], None}
use Rattle.std.specs.List.{All, list_all}
use Rattle.cc_host.specs.declared.event.Event.{Event}
use Rattle.cc_host.specs.declared.question.Ask.TheVariants.{Exists as AsksExists}
use Rattle.cc_host.specs.declared.question.Outcome.{Outcome}
use Rattle.cc_host.specs.declared.question.Question.{Question}
use Rattle.cc_host.specs.declared.question.Verdict.TheVariants.{Unanswered}
use Rattle.cc_host.specs.Probe.{opens, drops}
use Rattle.cc_host.specs.Question.{Answer, answers, NoTwice}
use Rattle.cc_host.specs.Verdict.{verdict_of}
use Rattle.cc_tool.specs.Excused.{Excused}
use Rattle.cc_tool.specs.Founded.{Founded}
use Rattle.cc_tool.specs.Probing.{is_asked, Follows, stand}

-- the verdict is the world's, unless there is none or a file was asked for
abbrev pub IsWorlds : (Question → Outcome) → Answer → Type 0
IsWorlds world a = a.1 ≢ Unanswered → a.0.ask ≢ AsksExists → a.1 ≡ verdict_of a.0 (world a.0)

-- The questions of a call, asked with probe files in a folder. The log goes on by a part, and the answers by those that the part gives.
pub record Asks (steady : Bool) (world : Question → Outcome) (dir : List ℕ) (before after : List Event) (old new : List Answer) : Type 0 where
  pub part : List Event
  pub extends : after ≡ before ++ part
  pub answered : new ≡ old ++ answers part
  pub once : NoTwice old → NoTwice new
  pub asked : list_all is_asked part ≡ true
  pub closed : drops part ≡ opens part
  pub excused : Excused 0 part
  pub founded : Founded false part
  pub probing : Follows dir (record { word = None; files = [] }) part
  pub dropped : (stand (record { word = None; files = [] }) part).files ≡ []
  pub honest : steady ≡ true → All (IsWorlds world) (answers part)
