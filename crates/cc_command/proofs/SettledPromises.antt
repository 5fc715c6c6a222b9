-- No child runs behind a request, and its commands are the first of the planned ones.
use Rattle.std.proofs.Common.{◌≡◌, inl, inr, ℕ, List, ◌∷◌, ◌++◌, map, sym, ◌∙◌, ap, append-nil, Bool}
use Rattle.std.proofs.lemmas.Grind.{flat_map-append}
use Rattle.cc_host.specs.Children.{running}
use Rattle.cc_host.specs.Part.Step.{Lists}
use Rattle.cc_host.specs.Question.{Look}
use Rattle.cc_host.specs.declared.event.Event.{Event}
use Rattle.cc_build.specs.Attempts.{attempt_of, attempts, to_attempt}
use Rattle.cc_build.specs.Captured.{with_vars}
use Rattle.cc_build.specs.Stage.{Stage, commands_in, planned_stages}
use Rattle.cc_build.specs.Went.{Terms, Means, Partly}
use Rattle.cc_build.specs.Stage.Stage.{Calls}
use Rattle.cc_build.proofs.ChildLaws.{running_behind}
use Rattle.cc_build.proofs.SettledLaws.{partly_settled, partly_first}
use Rattle.cc_build.proofs.StopLaws.{planned_plain}
use Rattle.cc_build.specs.Course.{Course}
use Rattle.cc_build.specs.Promises.{NothingRuns}
use Rattle.cc_command.specs.Answer.{Answers, AnswersBad, env_in, terms_in, repeating, stages_of, word_line}
use Rattle.cc_command.specs.Promises.{Begun, IsLine, IsPrefix, Promises}
use Rattle.cc_command.specs.Read.{Request}
use Rattle.cc_command.specs.declared.ended.Ended.{Ended}
use Rattle.cc_command.specs.declared.words.BadWord.{BadWord}
use Rattle.cc_command.proofs.PromiseLaws.{begun_of, built_of, compiles_first, complete, enough, line_of, heard_same, line_settled}
use Rattle.cc_command.proofs.StartedPromises.{no_attempt, beside, failed, stopped}

-- ---- no child runs

-- stages that were begun, with a line behind them, leave no child
pub stages_settled : (t : Terms) (stages : List Stage) (part run line : List Event) (x y : Means) → part ≡ run ++ line → Partly t stages run x y → IsLine line → NothingRuns part
stages_settled t stages part run line x y cut begun printed = ap running cut ∙ running_behind run line (partly_settled t stages run x y begun) ∙ line_settled line printed

pub request_settled : (listens : Bool) (look : Look) (q : Request) (part : List Event) (c : Course) → Begun listens look q part c → NothingRuns part
request_settled listens look q part c b = stages_settled (terms_in listens q b.run c) (stages_of listens look q b.finds b.run) part b.run b.line c.before c.after b.cut b.partly b.printed

pub word_settled : (bad : BadWord) (part : List Event) (ended : Ended) → AnswersBad bad part ended → NothingRuns part
word_settled bad part ended (inl printed) = line_settled part (line_of (word_line bad) part printed.1)
word_settled bad part ended (inr wanting) = line_settled part (inl wanting.1)

-- ---- one attempt for each command

-- a line behind a run tries no command
pub attempts_same : (part run line : List Event) → part ≡ run ++ line → IsLine line → attempts part ≡ attempts run
attempts_same part run line cut printed =
    ap attempts cut ∙ flat_map-append attempt_of run line ∙ ap (λ l. attempts run ++ l) (no_attempt line printed) ∙ append-nil (attempts run)

pub first : (listens : Bool) (look : Look) (q : Request) (part : List Event) (ended : Ended) (c : Course) → Answers listens look q part ended c → IsPrefix listens look q part
first listens look q part ended c a =
    let b : Begun listens look q part c = begun_of listens look q part ended c a in
    let p = partly_first (terms_in listens q b.run c) (stages_of listens look q b.finds b.run) b.run c.before c.after (tt, planned_plain q.1.config (env_in q b.run) (repeating b.finds.here b.finds.writing) look q.0) b.partly in
    let same = attempts_same part b.run b.line b.cut b.printed in (
      b.finds,
      (
        p.0,
        ap (λ (vars : List (List ℕ × List ℕ)). map to_attempt (commands_in (Calls Lists ∷ planned_stages q.1.config (with_vars q.1.env vars) (repeating b.finds.here b.finds.writing) look q.0))) (heard_same part b.run b.line b.cut b.printed)
            ∙ p.1
            ∙ ap (λ l. l ++ p.0) (sym same),
      ),
    )

-- ---- all of it

-- what an answer promises
pub promised : (listens : Bool) (q : Request) (ended : Ended) (look : Look) (part : List Event) (c : Course) → Answers listens look q part ended c → Promises listens q ended look part c
promised listens q ended look part c a = record {
  answer = a;
  built = built_of listens look q part ended c a;
  begun = begun_of listens look q part ended c a;
  order = compiles_first listens look q part ended c a;
  prefix = first listens look q part ended c a;
  beside = beside listens look q part ended c a;
  failed = failed listens look q part ended c a;
  stopped = stopped listens look q part ended c a;
  complete = complete listens look q part ended c a;
  enough = enough listens look q part ended c a;
}
