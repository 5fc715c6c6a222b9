-- A call that asks alone, with answers of its own.
use Rattle.std.proofs.Common.{◌≡◌, ℕ, List, [], ◌++◌, Bool, true, Result, Ok, Err, IfOk, IfErr, sym, ◌∙◌, ap, subst}
use Rattle.std.specs.List.{list_all}
use Rattle.cc_host.specs.Part.{since}
use Rattle.cc_host.specs.Question.{Look, Answer, answers, Agrees, Holds}
use Rattle.cc_host.specs.declared.event.Event.{Event}
use Rattle.cc_host.specs.declared.question.Outcome.{Outcome}
use Rattle.cc_host.specs.declared.question.Question.{Question}
use Rattle.cc_tool.specs.Asked.{Asked}
use Rattle.cc_tool.specs.Asks.{Asks}
use Rattle.cc_tool.specs.Own.{AnswersAmong}
use Rattle.cc_tool.specs.Probing.{is_asked}
use Rattle.cc_tool.proofs.Asides.{asks_extends}
use Rattle.cc_build.specs.Kept.{AsksOn}
use Rattle.cc_build.proofs.Growing.{on_asks, on_asked, holds_at, quiet_of}

module _ (steady : Bool) (world : Question → Outcome) (dir : List ℕ) (questions : Look → Question → Type 0) (old end new : List Event) (none known : List Answer) (asks : Asks steady world dir old end none known) (own : Holds known (λ look. AnswersAmong (questions look) (since old end))) (is : new ≡ end) (empty : none ≡ []) where
  on : AsksOn steady world dir questions (since old new) [] known
  on =
      subst (λ (l : List Event). AsksOn steady world dir questions (since old l) [] known) (sym is)
      (subst (λ (l : List Answer). AsksOn steady world dir questions (since old end) l known) empty (on_asks steady world dir questions old end none known asks own))

  pub alone_extends : new ≡ old ++ since old new
  alone_extends = subst (λ (l : List Event). l ≡ old ++ since old l) (sym is) (asks_extends steady world dir old end none known asks)

  pub alone_asked : (folder : List ℕ) → dir ≡ folder → Asked steady world folder questions (since old new)
  alone_asked folder same = subst (λ (d : List ℕ). Asked steady world d questions (since old new)) same (on_asked steady world dir questions (since old new) known on).0

  pub alone_answered : (after : List Answer) → after ≡ known → after ≡ answers (since old new)
  alone_answered after same = same ∙ (on_asked steady world dir questions (since old new) known on).1

  pub alone_quiet : list_all is_asked (since old new) ≡ true
  alone_quiet = quiet_of steady world dir old end new none known asks is

  -- what holds under the verdicts that agree with its answers
  pub alone_under : {P : Look → Type 0} → ((look : Look) → Agrees look known → P look) → Holds (answers (since old new)) P
  alone_under {P} so = holds_at known (answers (since old new)) P (sym (on_asked steady world dir questions (since old new) known on).1) so

-- a fact of an answer, by another
pub err_with : {X E : Type 0} {P Q : E → Type 0} (r : Result X E) → IfErr r P → ((e : E) → P e → Q e) → IfErr r Q
err_with (Ok x) h f = tt
err_with (Err e) h f = f e h
