-- What the program promises of its answer, by what its words ask for.
use Rattle.std.specs.Prelude.{Result, Ok, Err}
use Rattle.cc_command.specs.Answer.{AnswersBad}
use Rattle.cc_command.specs.Archived.{ArchivePromises}
use Rattle.cc_command.specs.Call.{Call, ByVerdicts, KeepsSeat}
use Rattle.cc_command.specs.Expanded.{ExpandPromises}
use Rattle.cc_command.specs.FleetRules.{FleetPromises}
use Rattle.cc_command.specs.Promises.{IsPromised, IsRecordedSo}
use Rattle.cc_command.specs.Read.{Wish}
use Rattle.cc_command.specs.Read.Wish.{Compiles, Records, Archives, Generates, Expands, Shows, Fleets}
use Rattle.cc_command.specs.Shown.{ShowPromises}
use Rattle.cc_command.specs.Summary.{GeneratePromises}
use Rattle.cc_command.specs.declared.ended.Ended.{Ended}
use Rattle.cc_command.specs.declared.words.BadWord.{BadWord}

-- A compile run, one that is recorded in a database, an archive alone, a large run from a number, a source that is
-- expanded, the tools of a build, a fleet; or bad words, whose line alone was printed. But a compile run and a fleet
-- none takes a token.
abbrev pub Promised : Call → Result Wish BadWord → Ended → Type 0
Promised c (Ok (Compiles q)) ended = ByVerdicts c (IsPromised c.listens q ended)
Promised c (Ok (Records path q)) ended = ByVerdicts c (IsRecordedSo c.listens path q ended)
Promised c (Ok (Archives q)) ended =
    KeepsSeat c × ArchivePromises c.listens c.steady c.world q c.patience c.turns c.part ended
Promised c (Ok (Generates count)) ended = KeepsSeat c × GeneratePromises count c.turns c.part ended
Promised c (Ok (Expands b)) ended = KeepsSeat c × ExpandPromises c.listens c.steady c.world b c.part ended
Promised c (Ok (Shows b)) ended = KeepsSeat c × ShowPromises c.listens c.steady c.world b c.part ended
Promised c (Ok (Fleets ms)) ended = FleetPromises c ms ended
Promised c (Err bad) ended = KeepsSeat c × AnswersBad bad c.part ended
