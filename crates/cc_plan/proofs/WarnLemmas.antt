-- Questions, and then their warnings.
use Rattle.std.proofs.Common.{◌≡◌, inl, inr, ℕ, List, [], ◌++◌, Bool, false, Result, Ok, Err, refl, sym, subst, append-nil}
use Rattle.std.specs.List.{list_any}
use Rattle.cc_host.specs.declared.event.Event.{Event}
use Rattle.cc_host.specs.declared.question.Outcome.{Outcome}
use Rattle.cc_host.specs.declared.question.Question.{Question}
use Rattle.cc_host.specs.Part.{Step, since}
use Rattle.cc_host.specs.Question.{Look, Answer, Settles, Holds}
use Rattle.cc_host.proofs.Parts.{partly_none}
use Rattle.cc_tool.specs.Asked.{question_events}
use Rattle.cc_tool.specs.Asks.{Asks}
use Rattle.cc_tool.specs.Own.{AnswersAmong}
use Rattle.cc_plan.specs.Asking.{AsksThen, AreSteps, Warns, Warned, EndsWarning, IsOwn, is_of_children}
use Rattle.cc_plan.specs.declared.error.PlanError.{PlanError}
use Rattle.cc_plan.specs.declared.error.PlanError.TheVariants.{Argument, NotSet, UnknownTarget, QnxArch, Flag, Host, NoMemory}

ends_none : (e : PlanError) → IsOwn e → EndsWarning [] e
ends_none (Argument cause) h = refl
ends_none (NotSet name) h = refl
ends_none (UnknownTarget name) h = refl
ends_none (QnxArch name) h = refl
ends_none (Flag flag) h = refl
ends_none (Host call why) h = absurd h
ends_none NoMemory h = refl

-- a plan was refused: there is no warning
pub warns_refused : {X : Type 0} {steady : Bool} {world : Question → Outcome} {dir : List ℕ} {questions : Look → Question → Type 0} {before after : List Event} {old new : List Answer} {warnings : Bool → Look → List Step} (result : Result X PlanError) (e : PlanError) → result ≡ Err e → IsOwn e → Asks steady world dir before after old new → Holds new (λ look. AnswersAmong (questions look) (since before after)) → AsksThen steady world dir questions before after old new (Warns new warnings result)
warns_refused {X} {steady} {world} {dir} {questions} {before} {after} {old} {new} {warnings} result e is own asks among =
    subst (λ (r : Result X PlanError). AsksThen steady world dir questions before after old new (Warns new warnings r)) (sym is)
    (record {
      mid = after;
      rest = [];
      asks = asks;
      own = among;
      extends = sym (append-nil after);
      holds = record { warns_of_link = false; steps = []; settled = inl refl; warned = (partly_none _, ends_none e own); silent = refl; childless = refl };
    })

are_steps : {X : Type 0} (known : List Answer) (warnings : Look → List Step) (steps : List Step) (part : List Event) (result : Result X PlanError) → Settles known warnings steps → AreSteps known warnings steps part result
are_steps known warnings steps part (Ok x) s = s
are_steps known warnings steps part (Err e) s = inr s

-- a plan was made, and its warnings were given to the host, or not all of them
pub warns_printed : {X : Type 0} {steady : Bool} {world : Question → Outcome} {dir : List ℕ} {questions : Look → Question → Type 0} {before mid after : List Event} {old new : List Answer} {warnings : Bool → Look → List Step} (warns_of_link : Bool) (steps : List Step) (result : Result X PlanError) → Asks steady world dir before mid old new → Holds new (λ look. AnswersAmong (questions look) (since before mid)) → after ≡ mid ++ since mid after → Settles new (warnings warns_of_link) steps → Warned steps (since mid after) result → question_events (since mid after) ≡ [] → list_any is_of_children (since mid after) ≡ false → AsksThen steady world dir questions before after old new (Warns new warnings result)
warns_printed {X} {steady} {world} {dir} {questions} {before} {mid} {after} {old} {new} {warnings} warns_of_link steps result asks among extends settled h silent childless = record {
  mid = mid;
  rest = since mid after;
  asks = asks;
  own = among;
  extends = extends;
  holds = record { warns_of_link = warns_of_link; steps = steps; settled = are_steps new (warnings warns_of_link) steps (since mid after) result settled; warned = h; silent = silent; childless = childless };
}
