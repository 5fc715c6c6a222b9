-- What follows of any words from what was answered to them.
use Rattle.std.proofs.Common.{◌≡◌, inl, inr, ap, ℕ, List, [], Result, Ok, Err}
use Rattle.cc_host.specs.Question.{Look, answers}
use Rattle.cc_host.specs.declared.event.Event.{Event}
use Rattle.cc_tool.specs.Asked.{question_events}
use Rattle.cc_tool.proofs.SomeLemmas.{some_agree}
use Rattle.cc_build.specs.Course.{Course}
use Rattle.cc_build.specs.Promises.{NothingRuns}
use Rattle.cc_command.specs.Answer.{Answers, AnswersRecord, AnswersBad, BuiltBy, IfCompiles}
use Rattle.cc_command.specs.Answered.{Answered}
use Rattle.cc_command.specs.Asks.{AsksWords}
use Rattle.cc_command.specs.Call.{Call, ByVerdicts, course_of}
use Rattle.cc_command.specs.Promised.{Promised}
use Rattle.cc_command.specs.Promises.{PrintsLast, FaultsLast, UnlessFleet}
use Rattle.cc_command.specs.Read.{Request, Wish}
use Rattle.cc_command.specs.Read.Wish.{Compiles, Records, Archives, Generates, Expands, Shows, Fleets}
use Rattle.cc_command.specs.declared.ended.Ended.{Ended}
use Rattle.cc_command.specs.declared.words.BadWord.{BadWord}
use Rattle.cc_command.proofs.ArchivedLaws.{archived_asks, archived_last, archived_faults, archived_settled, archive_promised}
use Rattle.cc_command.proofs.ExpandedLaws.{expanded_last, expanded_faults, expanded_settled, expand_promises}
use Rattle.cc_command.proofs.FleetLaws.{fleet_settled, fleet_asks}
use Rattle.cc_command.proofs.FleetPromised.{fleet_promises}
use Rattle.cc_command.proofs.PromiseLaws.{begun_of, built_of, request_last, word_last, request_faults, word_faults}
use Rattle.cc_command.proofs.RecordPromises.{record_promises}
use Rattle.cc_command.proofs.RecordedLaws.{record_last, record_faults, record_settled}
use Rattle.cc_command.proofs.SettledPromises.{promised, request_settled, word_settled}
use Rattle.cc_command.proofs.ShownLaws.{shown_last, shown_faults, shown_settled, show_promises}
use Rattle.cc_command.proofs.SummedLaws.{summed_last, summed_faults, summed_settled, sums_promise}

-- the line of a bad word asks nothing
word_asks : (bad : BadWord) (part : List Event) (ended : Ended) → AnswersBad bad part ended → question_events part ≡ []
word_asks bad part ended (inl (is, inl printed)) = ap question_events printed
word_asks bad part ended (inl (is, inr faulted)) = ap question_events faulted.1
word_asks bad part ended (inr (is, none)) = ap question_events none

module _ (c : Call) (ended : Ended) where
  -- a compile run is answered so by some verdicts, and on some course
  some_answer : (q : Request) → Answered c (Ok (Compiles q)) ended → (look : Look) × (k : Course) × Answers c.listens look q c.part ended k
  some_answer q a =
      let some = some_agree (answers c.part) a.0.once in
      let answer = a.1.under some.0 some.1 in
      (some.0, course_of c answer.0, answer.1)

  some_record : (path : List ℕ) (q : Request) → Answered c (Ok (Records path q)) ended → (look : Look) × (k : Course) × AnswersRecord c.listens look path q c.part ended k
  some_record path q a =
      let some = some_agree (answers c.part) a.0.once in
      let answer = a.1.under some.0 some.1 in
      (some.0, course_of c answer.0, answer.1)

  pub headline : (words : Result Wish BadWord) → Answered c words ended → ByVerdicts c (λ look part k. IfCompiles words (λ q. ended.status ≡ 0 → BuiltBy c.listens look q part k))
  headline (Ok (Compiles q)) a = record {
    under = λ look agree.
        let answer = a.1.under look agree in
        (answer.0, built_of c.listens look q c.part ended (course_of c answer.0) answer.1);
  }
  headline (Ok (Records path q)) a = record { under = λ look agree. (0, tt) }
  headline (Ok (Archives q)) a = record { under = λ look agree. (0, tt) }
  headline (Ok (Generates count)) a = record { under = λ look agree. (0, tt) }
  headline (Ok (Expands b)) a = record { under = λ look agree. (0, tt) }
  headline (Ok (Shows b)) a = record { under = λ look agree. (0, tt) }
  headline (Ok (Fleets ms)) a = record { under = λ look agree. (0, tt) }
  headline (Err bad) a = record { under = λ look agree. (0, tt) }

  pub all_promised : (words : Result Wish BadWord) → Answered c words ended → Promised c words ended
  all_promised (Ok (Compiles q)) a = record {
    under = λ look agree.
        let answer = a.1.under look agree in
        (answer.0, promised c.listens q ended look c.part (course_of c answer.0) answer.1);
  }
  all_promised (Ok (Records path q)) a = record {
    under = λ look agree.
        let answer = a.1.under look agree in
        (answer.0, record_promises c.listens look path q c.part ended (course_of c answer.0) answer.1);
  }
  all_promised (Ok (Archives q)) a = (a.0, archive_promised c.listens c.steady c.world q c.patience c.turns c.part ended a.1)
  all_promised (Ok (Generates count)) a = (a.0, sums_promise count c.turns c.part ended a.2)
  all_promised (Ok (Expands b)) a = (a.0, expand_promises c.listens c.steady c.world b c.part ended a.1)
  all_promised (Ok (Shows b)) a = (a.0, show_promises c.listens c.steady c.world b c.part ended a.1)
  all_promised (Ok (Fleets ms)) a = fleet_promises c ms ended a
  all_promised (Err bad) a = a

  pub prints_last : (words : Result Wish BadWord) → Answered c words ended → UnlessFleet words (PrintsLast c.part ended)
  prints_last (Ok (Compiles q)) a = let s = some_answer q a in request_last c.listens s.0 q c.part ended s.1 s.2
  prints_last (Ok (Records path q)) a = let s = some_record path q a in record_last c.listens s.0 path q c.part ended s.1 s.2
  prints_last (Ok (Archives q)) a = archived_last c.listens c.steady c.world q c.patience c.turns c.part ended a.1
  prints_last (Ok (Generates count)) a = summed_last count c.turns c.part ended a.2
  prints_last (Ok (Expands b)) a = expanded_last c.listens c.steady c.world b c.part ended a.1
  prints_last (Ok (Shows b)) a = shown_last c.listens c.steady c.world b c.part ended a.1
  prints_last (Ok (Fleets ms)) a = tt
  prints_last (Err bad) a = word_last bad c.part ended a.1

  pub faults_last : (words : Result Wish BadWord) → Answered c words ended → UnlessFleet words (FaultsLast c.part)
  faults_last (Ok (Compiles q)) a = let s = some_answer q a in request_faults c.listens s.0 q c.part s.1 (begun_of c.listens s.0 q c.part ended s.1 s.2)
  faults_last (Ok (Records path q)) a = let s = some_record path q a in record_faults c.listens s.0 path q c.part ended s.1 s.2
  faults_last (Ok (Archives q)) a = archived_faults c.listens c.steady c.world q c.patience c.turns c.part ended a.1
  faults_last (Ok (Generates count)) a = summed_faults count c.turns c.part ended a.2
  faults_last (Ok (Expands b)) a = expanded_faults c.listens c.steady c.world b c.part ended a.1
  faults_last (Ok (Shows b)) a = shown_faults c.listens c.steady c.world b c.part ended a.1
  faults_last (Ok (Fleets ms)) a = tt
  faults_last (Err bad) a = word_faults bad c.part ended a.1

  pub settled : (words : Result Wish BadWord) → Answered c words ended → NothingRuns c.part
  settled (Ok (Compiles q)) a = let s = some_answer q a in request_settled c.listens s.0 q c.part s.1 (begun_of c.listens s.0 q c.part ended s.1 s.2)
  settled (Ok (Records path q)) a = let s = some_record path q a in record_settled c.listens s.0 path q c.part ended s.1 s.2
  settled (Ok (Archives q)) a = archived_settled c.listens c.steady c.world q c.patience c.turns c.part ended a.1
  settled (Ok (Generates count)) a = summed_settled count c.turns c.part ended a.2
  settled (Ok (Expands b)) a = expanded_settled c.listens c.steady c.world b c.part ended a.1
  settled (Ok (Shows b)) a = shown_settled c.listens c.steady c.world b c.part ended a.1
  settled (Ok (Fleets ms)) a = fleet_settled c ms ended a
  settled (Err bad) a = word_settled bad c.part ended a.1

  pub asks_words : (words : Result Wish BadWord) → Answered c words ended → AsksWords c.steady c.world words c.part
  asks_words (Ok (Compiles q)) a = a.0
  asks_words (Ok (Records path q)) a = a.0
  asks_words (Ok (Archives q)) a = archived_asks c.listens c.steady c.world q c.patience c.turns c.part ended a.1
  asks_words (Ok (Generates count)) a = a.1
  asks_words (Ok (Expands b)) a = a.1.asks
  asks_words (Ok (Shows b)) a = a.1.asks
  asks_words (Ok (Fleets ms)) a = fleet_asks c ms ended a
  asks_words (Err bad) a = word_asks bad c.part ended a.1
