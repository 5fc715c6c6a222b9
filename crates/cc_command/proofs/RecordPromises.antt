-- What an answer to a compile run that is recorded promises.
use Rattle.std.proofs.Common.{◌≡◌, inl, inr, ℕ, List, ◌∷◌, ◌++◌, Bool, sym, ◌∙◌, ap}
use Rattle.cc_host.specs.Question.{Look}
use Rattle.cc_host.specs.declared.event.Event.{Event}
use Rattle.cc_host.specs.declared.event.Event.TheVariants.{Listed, Here}
use Rattle.cc_build.specs.Course.{Course}
use Rattle.cc_build.specs.Error.{ErrorSeen}
use Rattle.cc_command.specs.Answer.{Answers, AnswersError, AnswersRecord, Behind, database_in, ended_well}
use Rattle.cc_command.specs.Promises.{RecordedBy, RecordPromises}
use Rattle.cc_command.specs.Read.{Request}
use Rattle.cc_command.specs.declared.ended.Ended.{Ended}
use Rattle.cc_command.proofs.PromiseLaws.{built_of}
use Rattle.cc_command.proofs.RecordEnds.{record_complete, record_enough}
use Rattle.cc_command.proofs.SettledPromises.{promised}

error_status : (e : ErrorSeen) (line : List Event) (ended : Ended) → AnswersError e line ended → ended.status ≡ 0 → ⊥
error_status e line ended (inl printed) zero_is = let s : ended.status ≡ 1 = ap (λ (x : Ended). x.status) printed.0 in cc
error_status e line ended (inr wanting) zero_is = let s : ended.status ≡ 3 = ap (λ (x : Ended). x.status) wanting.0 in cc

answered_well : (listens : Bool) (look : Look) (q : Request) (part : List Event) (ended : Ended) (c : Course) → Answers listens look q part ended c → ended.status ≡ 0 → ended ≡ ended_well
answered_well listens look q part ended c (inl well) zero_is = well.0
answered_well listens look q part ended c (inr (inl r)) zero_is = let s : ended.status ≡ 1 = ap (λ (x : Ended). x.status) r.is in absurd (cc)
answered_well listens look q part ended c (inr (inr wanting)) zero_is = let s : ended.status ≡ 3 = ap (λ (x : Ended). x.status) wanting.0 in absurd (cc)

module _ (listens : Bool) (look : Look) (path : List ℕ) (q : Request) (part : List Event) (ended : Ended) (c : Course) where
  recorded_by : AnswersRecord listens look path q part ended c → ended.status ≡ 0 → RecordedBy listens look path q part c
  recorded_by (inl u) zero_is = absurd (error_status u.error u.line ended u.says zero_is)
  recorded_by (inr r) zero_is = by_rest r.behind
    where
      by_rest : Behind path (database_in look q r.vars r.here) r.ran r.rest ended → RecordedBy listens look path q part c
      by_rest (inl (well, inl written)) = record {
        vars = r.vars;
        here = r.here;
        run = r.run;
        cut = r.cut ∙ ap (λ l. Listed r.vars ∷ Here r.here ∷ (r.run ++ l)) written.1;
        built = built_of listens look q (Listed r.vars ∷ r.run) r.ran c r.answer (ap (λ (x : Ended). x.status) well);
      }
      by_rest (inl (well, inr u)) = absurd (error_status u.error u.line ended u.says zero_is)
      by_rest (inr refused) =
          let ran : r.ran.status ≡ 0 = ap (λ (x : Ended). x.status) (sym refused.0) ∙ zero_is in
          absurd (refused.2 (refused.0 ∙ answered_well listens look q (Listed r.vars ∷ r.run) r.ran c r.answer ran))

  pub record_promises : AnswersRecord listens look path q part ended c → RecordPromises listens look path q part ended c
  record_promises a = record {
    answer = a;
    recorded = recorded_by a;
    promises = λ r. promised listens q r.ran look (Listed r.vars ∷ r.run) c r.answer;
    complete = record_complete listens look path q part ended c a;
    enough = record_enough listens look path q part ended c a;
  }
