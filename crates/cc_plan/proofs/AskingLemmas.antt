-- Laws on calls that ask and do nothing else.
use Rattle.std.proofs.Common.{ℕ, Bool, List, Option, refl}
use Rattle.cc_host.specs.Part.{since}
use Rattle.cc_host.specs.Question.{Look, Holds}
use Rattle.cc_host.specs.declared.event.Event.{Event}
use Rattle.cc_host.specs.declared.host.World.{Ghosts}
use Rattle.cc_host.specs.declared.question.Outcome.{Outcome}
use Rattle.cc_host.specs.declared.question.Question.{Question}
use Rattle.cc_tool.proofs.AskLemmas.{asks_none}
use Rattle.cc_tool.proofs.OwnLemmas.{among_none, among_more}
use Rattle.cc_tool.proofs.SettleLemmas.{holds_all}
use Rattle.cc_plan.specs.OnlyAsks.{OnlyAsks}
use Rattle.cc_plan.specs.declared.sight.Sight.{Sight}

module _ {W H : Type 0} {ghosts : Ghosts W} {steady : Bool} {world : Question → Outcome} {log : H → List Event} {patience : H → Option ℕ} {questions : Look → Question → Type 0} where
  -- no question
  pub only_none : (s : Sight W H ghosts) → OnlyAsks steady world log patience questions s s
  only_none s = record { same_host = refl; same_answers = refl; same_dir = refl; asks = asks_none _ _; own = holds_all (λ look. among_none (questions look) (log s.host.now)); patient = refl }

  -- questions that are among others, under verdicts that agree with the answers
  pub only_more : {wider : Look → Question → Type 0} {a b : Sight W H ghosts} → OnlyAsks steady world log patience questions a b → Holds b.answers.now (λ look. (q : Question) → questions look q → wider look q) → OnlyAsks steady world log patience wider a b
  only_more {wider} {a} {b} f so = record {
    same_host = f.same_host;
    same_answers = f.same_answers;
    same_dir = f.same_dir;
    asks = f.asks;
    own = record { under = λ look s. among_more (questions look) (wider look) (since (log a.host.now) (log b.host.now)) (so.under look s) (f.own.under look s) };
    patient = f.patient;
  }
