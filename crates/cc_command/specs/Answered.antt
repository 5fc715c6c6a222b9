-- The whole answer of the program to its words, by what they ask for.
use Rattle.std.specs.Prelude.{◌≡◌, [], Result, Ok, Err}
use Rattle.cc_tool.specs.Asked.{question_events}
use Rattle.cc_command.specs.Answer.{AnswersBad, IsAnswer, IsRecorded}
use Rattle.cc_command.specs.Archived.{Archived}
use Rattle.cc_command.specs.Asks.{AsksFor}
use Rattle.cc_command.specs.Call.{Call, ByVerdicts, KeepsSeat}
use Rattle.cc_command.specs.Expanded.{Expanded}
use Rattle.cc_command.specs.Fleets.{AnswersFleet}
use Rattle.cc_command.specs.Read.{Wish}
use Rattle.cc_command.specs.Read.Wish.{Compiles, Records, Archives, Generates, Expands, Shows, Fleets}
use Rattle.cc_command.specs.Shown.{Shown}
use Rattle.cc_command.specs.Summary.{Sums}
use Rattle.cc_command.specs.declared.ended.Ended.{Ended}
use Rattle.cc_command.specs.declared.words.BadWord.{BadWord}

-- Each status has its cause. But a compile run and a fleet none takes a token.
abbrev pub Answered : Call → Result Wish BadWord → Ended → Type 0
Answered c (Ok (Compiles q)) ended = AsksFor c.steady c.world q c.part × ByVerdicts c (IsAnswer c.listens q ended)
Answered c (Ok (Records path q)) ended =
    AsksFor c.steady c.world q c.part × ByVerdicts c (IsRecorded c.listens path q ended)
Answered c (Ok (Archives q)) ended = KeepsSeat c × Archived c.listens c.steady c.world q c.patience c.turns c.part ended
Answered c (Ok (Generates count)) ended = KeepsSeat c × (question_events c.part ≡ []) × Sums count c.turns c.part ended
Answered c (Ok (Expands b)) ended = KeepsSeat c × Expanded c.listens c.steady c.world b c.part ended
Answered c (Ok (Shows b)) ended = KeepsSeat c × Shown c.listens c.steady c.world b c.part ended
Answered c (Ok (Fleets ms)) ended = AnswersFleet c ms ended
Answered c (Err bad) ended = KeepsSeat c × AnswersBad bad c.part ended
