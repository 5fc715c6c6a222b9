-- Where a compile run has no stage at all, its settings are refused.
use Rattle.std.proofs.Common.{◌≡◌, ◌⊎◌, inl, inr, ℕ, List, [], ◌∷◌, ◌++◌, Option, Some, None, Bool, true, false, if◌then◌else◌, is_some, refl, sym, ◌∙◌, ap, option_map}
use Rattle.cc_env.specs.Env.{EnvSeen}
use Rattle.cc_host.specs.Question.{Look}
use Rattle.cc_flags.specs.Given.{is_disabled}
use Rattle.cc_plan.specs.Plan.{folder_steps}
use Rattle.cc_plan.specs.Refusal.{early_refusal, late_refusal}
use Rattle.cc_flags.specs.Given.{first_of}
use Rattle.cc_plan.specs.declared.error.PlanError.{PlanError}
use Rattle.cc_plan.specs.declared.error.PlanError.TheVariants.{NoMemory as WantsMemory}
use Rattle.cc_flags.specs.declared.settings.BuildConfig.{BuildConfig}
use Rattle.cc_build.specs.Error.{ErrorSeen, no_memory}
use Rattle.cc_build.specs.Refusal.{plan_error, disabled_error, refusal_error, late_error, archive_error, link_error}
use Rattle.cc_build.specs.Stage.{Stage, calls, folder_stages, late_stages, planned_stages}
use Rattle.cc_build.specs.Stage.Stage.{Asks}
use Rattle.cc_build.specs.Way.{Way}
use Rattle.cc_build.proofs.Going.{IsOpen}

-- the error of a refused plan, by its cause
pub plan_cause : (set : BuildConfig) (env : EnvSeen) (output : List ℕ) (error : PlanError) (e : ErrorSeen) (r : Option PlanError) → (e ≡ no_memory) ⊎ (e ≡ plan_error set env output error) → (error ≡ WantsMemory) ⊎ (r ≡ Some error) → (e ≡ no_memory) ⊎ (option_map (plan_error set env output) r ≡ Some e)
unfolding plan_error
plan_cause set env output error e r (inl memory) cause = inl memory
plan_cause set env output error e r (inr is) (inl wants) = inl (is ∙ ap (plan_error set env output) wants)
plan_cause set env output error e r (inr is) (inr refused) = inr (ap (option_map (plan_error set env output)) refused ∙ ap Some (sym is))

-- the error of the checks behind the folder
abbrev pub behind_error : BuildConfig → EnvSeen → Look → List ℕ → Option ErrorSeen
behind_error set env look output = first_of (late_error set env look output) (first_of (archive_error set env look output) (link_error set env look output))

-- the stages of the folder are its steps
pub folder_is : (set : BuildConfig) (env : EnvSeen) → folder_stages set env ≡ calls (folder_steps set env)
unfolding folder_stages
folder_is set env = refl

-- ---- a stage is left, or the settings are refused

checks_open : (disabled : Bool) (error : ErrorSeen) (refusal : Option ErrorSeen) (rest : Option ErrorSeen) (run : List Stage) → IsOpen (first_of (if disabled then Some error else refusal) rest) (if disabled then [] else Asks ∷ run)
checks_open true error refusal rest run none = refl
checks_open false error refusal rest run none = absurd (cc)

late_open : (set : BuildConfig) (env : EnvSeen) (way : Way) (look : Look) (output : List ℕ) → IsOpen (behind_error set env look output) (late_stages set env way look output)
unfolding late_stages
late_open set env way look output =
    checks_open (is_disabled env) disabled_error (option_map (plan_error set env output) (late_refusal set env look)) (first_of (archive_error set env look output) (link_error set env look output)) _

pub both_none : (a b : List Stage) → a ++ b ≡ [] → b ≡ []
both_none [] b none = none
both_none (s ∷ a) b none = absurd (cc)

early_open : (f : PlanError → ErrorSeen) (early : Option PlanError) (late : Option ErrorSeen) (folder more : List Stage) → IsOpen late more → IsOpen (first_of (option_map f early) late) (if is_some early then [] else folder ++ more)
early_open f None late folder more owed none = owed (both_none folder more none)
early_open f (Some error) late folder more owed none = refl

-- where a compile run has no stage at all, its settings are refused
pub planned_open : (set : BuildConfig) (env : EnvSeen) (way : Way) (look : Look) (output : List ℕ) → IsOpen (refusal_error set env look output) (planned_stages set env way look output)
unfolding planned_stages
planned_open set env way look output =
    early_open (plan_error set env output) (early_refusal set env output) (behind_error set env look output) (folder_stages set env) (late_stages set env way look output) (late_open set env way look output)
