-- The outcome of a question on a flag.
use Rattle.std.proofs.Common.{◌≡◌, ◌⊎◌, inl, inr, ℕ, List, [], Bool, Option, Some, None, Result, Ok, Err, OnOk, IfErr, false, refl, ap, ◌∙◌}
use Rattle.std.specs.Option.{option_map}
use Rattle.cc_env.specs.Env.{EnvSeen}
use Rattle.cc_host.specs.Part.{Step}
use Rattle.cc_host.specs.Question.{Look, Answer, Agrees, Settles}
use Rattle.cc_host.specs.declared.event.Event.{Event}
use Rattle.cc_host.proofs.Parts.{partly_whole}
use Rattle.cc_plan.specs.Asking.{Warns}
use Rattle.cc_flags.specs.Given.{first_of}
use Rattle.cc_plan.specs.declared.error.PlanError.{PlanError}
use Rattle.cc_flags.specs.declared.settings.BuildConfig.{BuildConfig}
use Rattle.cc_host.specs.declared.question.Verdict.{Verdict}
use Rattle.cc_build.specs.Error.{ErrorSeen, no_memory}
use Rattle.cc_build.specs.FlagSupport.{is_untried, verdict_error}
use Rattle.cc_build.specs.Outcome.{Outcome}
use Rattle.cc_build.specs.Refusal.{plan_error}
use Rattle.cc_build.proofs.Telling.{planned_outcome}

-- the compiler was asked: its verdict answers, or is an error
answered : (refusal error : Option ErrorSeen) (steps : List Step) (part : List Event) (r : Result Bool ErrorSeen) → Outcome {T = Unit {0}} refusal steps part (Ok tt) → OnOk r (error ≡ None) → IfErr r (λ e. (e ≡ no_memory) ⊎ (error ≡ Some e)) → Outcome (first_of refusal error) steps part r
answered refusal error steps part (Ok b) o tried untried = (ap (λ x. first_of x error) o.0 ∙ tried, o.1)
answered refusal error steps part (Err e) o tried (inl memory) = (partly_whole steps part o.1, inl memory)
answered refusal error steps part (Err e) o tried (inr is) = (partly_whole steps part o.1, inr (inl (ap (λ x. first_of x error) o.0 ∙ is)))

-- no question could be asked, or a line not be printed
pub unanswered : (T : Type 0) (refusal error : Option ErrorSeen) (steps : List Step) (part : List Event) (e : ErrorSeen) → Outcome {T = T} refusal steps part (Err e) → Outcome {T = T} (first_of refusal error) steps part (Err e)
unanswered T refusal error steps part e (partly, inl memory) = (partly, inl memory)
unanswered T refusal error steps part e (partly, inr (inl refused)) = (partly, inr (inl (ap (λ x. first_of x error) refused)))
unanswered T refusal error steps part e (partly, inr (inr stopped)) = (partly, inr (inr stopped))

pub answered_outcome : {X : Type 0} (known : List Answer) (warnings : Bool → Look → List Step) (refusal : Look → Option PlanError) (set : BuildConfig) (env : EnvSeen) (part : List Event) (result : Result X PlanError) (x : X) (error : Option ErrorSeen) (r : Result Bool ErrorSeen) (look : Look) → Agrees look known → result ≡ Ok x → (w : Warns known warnings result part) → Settles known refusal None → OnOk r (error ≡ None) → IfErr r (λ e. (e ≡ no_memory) ⊎ (error ≡ Some e)) → Outcome (first_of (option_map (plan_error set env []) (refusal look)) error) (warnings w.warns_of_link look) part r
answered_outcome {X} known warnings refusal set env part result x error r look agree is w allowed tried untried =
    answered (option_map (plan_error set env []) (refusal look)) error (warnings w.warns_of_link look) part r
    (planned_outcome {T = Unit {0}} known warnings refusal set env part result x tt look agree is w allowed) tried untried

-- the error of a verdict by its other name
pub tried_so : (path path' : List ℕ) (v v' : Verdict) (r : Result Bool ErrorSeen) → path' ≡ path → v' ≡ v → OnOk r (is_untried v ≡ false) → OnOk r (verdict_error path' v' ≡ None)
tried_so path path' v v' (Ok b) e f tried = rw (f, tried) refl
tried_so path path' v v' (Err x) e f tried = tt

pub untried_so : (path path' : List ℕ) (v v' : Verdict) (r : Result Bool ErrorSeen) → path' ≡ path → v' ≡ v → IfErr r (λ e. (e ≡ no_memory) ⊎ (verdict_error path v ≡ Some e)) → IfErr r (λ e. (e ≡ no_memory) ⊎ (verdict_error path' v' ≡ Some e))
untried_so path path' v v' (Ok b) e f untried = tt
untried_so path path' v v' (Err x) e f untried = rw (e, f) untried
