-- What a call promises whose words want no file read: all that `drive` promises.
use Rattle.std.specs.Prelude.{List, String}
use Rattle.cc_build.specs.Promises.{NothingRuns}
use Rattle.cc_command.specs.Answer.{asked_for}
use Rattle.cc_command.specs.Asks.{AsksWords}
use Rattle.cc_command.specs.Call.{Call, ByVerdicts}
use Rattle.cc_command.specs.Promised.{Promised}
use Rattle.cc_command.specs.Promises.{Headline, PrintsLast, FaultsLast, UnlessFleet}
use Rattle.cc_command.specs.declared.ended.Ended.{Ended}

-- the words are answered so by a call
pub record Drives {Z : Type 0} (c : Call) (words : List (String Z)) (ended : Ended) : Type 0 where
  pub built : ByVerdicts c (Headline c.listens words ended)
  pub promised : Promised c (asked_for words) ended
  pub printed : UnlessFleet (asked_for words) (PrintsLast c.part ended)
  pub faults_last : UnlessFleet (asked_for words) (FaultsLast c.part)
  pub settled : NothingRuns c.part
  pub asked : AsksWords c.steady c.world (asked_for words) c.part
