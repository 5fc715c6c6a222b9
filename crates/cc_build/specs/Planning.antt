-- A compile run that is planned and not begun: its compile commands are values, and nothing is started.
use Rattle.std.specs.Prelude.{◌≡◌, ℕ, Bool, List, ◌∷◌, Option, Result, IfOk}
use Rattle.cc_env.specs.Env.{EnvSeen}
use Rattle.cc_host.specs.Question.{Look}
use Rattle.cc_host.specs.declared.event.Event.{Event}
use Rattle.cc_flags.specs.Given.{first_of}
use Rattle.cc_flags.specs.declared.settings.BuildConfig.{BuildConfig}
use Rattle.cc_plan.specs.Plan.{objects_of}
use Rattle.cc_plan.specs.Refusal.{early_refusal}
use Rattle.cc_build.specs.Build.{BuildSeen}
use Rattle.cc_build.specs.Error.{ErrorSeen}
use Rattle.cc_build.specs.Intermediates.{source_reads}
use Rattle.cc_build.specs.Refusal.{early_error, late_error}
use Rattle.cc_build.specs.Shows.{shows_of}
use Rattle.cc_build.specs.RunPlan.{checked_then}
use Rattle.cc_build.specs.Stage.{Stage, compiles_planned, name_stages}
use Rattle.cc_build.specs.Stage.Stage.{Asks}
use Rattle.cc_build.specs.Way.{Found, Firsts, Hears, Repeats}
use Rattle.cc_build.specs.Went.{Terms, Means, Ends}
use Rattle.cc_build.specs.declared.planning.CompilePlan.{CompilePlan}

-- The folder is made where there is a source, and where commands may run the host is given the warnings of the plan,
-- one that listens is asked for the current folder, and the lines of the variables that were read are printed.
abbrev pub planning_stages : BuildConfig → EnvSeen → Found → Look → Firsts → List ℕ → List Stage
planning_stages set env found look firsts output =
    checked_then (early_refusal set env output) set env found look
    (Asks ∷ name_stages set env (source_reads set) look firsts)

-- the error of settings that are refused before the first command
abbrev pub planning_error : BuildConfig → EnvSeen → Look → List ℕ → Option ErrorSeen
planning_error set env look output = first_of (early_error set env output) (late_error set env look output)

-- the objects of the sources, the commands that compile them in order, and what of these is shown
pub record IsPlan (b : BuildSeen) (listens : Bool) (here : Option (List ℕ)) (look : Look) (plan : CompilePlan)
    : Type 0 where
  pub objects : plan.objects.items ≡ objects_of b.config b.env
  pub commands : plan.commands.items ≡ compiles_planned b.config b.env here look
  pub shows : plan.shows ≡ shows_of b.config b.env listens

-- Ok: nothing is refused, all stages were done, and this is the plan. Else the first ones were, and the error has its
-- cause. No child is started, so this holds on any terms and uses nothing up.
abbrev pub PlanningEnds : BuildSeen → Bool → List ℕ → Result CompilePlan ErrorSeen → Look → List Event → Type 0
PlanningEnds b listens output result look part =
    (found : Found) × (firsts : Firsts) × (Hears listens found × Repeats b.config firsts
    × IfOk result (IsPlan b listens found.here look)
    × ((t : Terms) (x : Means) → Ends t (planning_error b.config b.env look output)
    (planning_stages b.config b.env found look firsts output) part result x x))
