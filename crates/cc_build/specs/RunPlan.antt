-- A run in two calls: it is planned and opened, and then its commands are run.
use Rattle.std.specs.Global.{Vec}
use Rattle.std.specs.Prelude.{◌≡◌, ◌≢◌, ℕ, Bool, false, List, [], ◌∷◌, ◌++◌, Option, None, Result, Ok, Err, is_some, if◌then◌else◌}
use Rattle.cc_env.specs.Env.{EnvSeen}
use Rattle.cc_host.specs.Question.{Look}
use Rattle.cc_host.specs.declared.event.Event.{Event}
use Rattle.cc_flags.specs.Given.{is_disabled, first_of, probe_folder}
use Rattle.cc_flags.specs.Names.{library_name}
use Rattle.cc_flags.specs.declared.settings.BuildConfig.{BuildConfig}
use Rattle.cc_plan.specs.Plan.{objects_of, library_of}
use Rattle.cc_plan.specs.Refusal.{early_refusal, late_refusal}
use Rattle.cc_plan.specs.declared.error.PlanError.{PlanError}
use Rattle.cc_run.specs.declared.planned.Planned.{Planned}
use Rattle.cc_run.specs.declared.planned.Shows.{Shows}
use Rattle.cc_build.specs.Build.{BuildSeen}
use Rattle.cc_build.specs.Course.{Course}
use Rattle.cc_build.specs.Error.{ErrorSeen}
use Rattle.cc_build.specs.Refusal.{early_error, late_error, archive_error, link_error}
use Rattle.cc_build.specs.Shows.{shows_of}
use Rattle.cc_build.specs.Stage.{Stage, calls, beside, asked_then, opening_steps, compiles_planned, folder_stages, later_stages}
use Rattle.cc_build.specs.Stage.Stage.{Asks}
use Rattle.cc_build.specs.Way.{Found, Writing, Firsts, Hears, Repeats, way_of, chosen}
use Rattle.cc_build.specs.Went.{Terms, Means, terms, Went, Halted, Ends}
use Rattle.cc_build.specs.declared.run_plan.RunPlan.{RunPlan}

-- The stages of a run behind its first checks: the folder is made, and where commands may run questions are asked, the
-- warnings are given to the host, one that listens is asked for the current folder, and then these follow. Behind what
-- the answers refuse comes nothing.
abbrev pub opened_then : BuildConfig → EnvSeen → Found → Look → List Stage → List Stage
opened_then set env found look more =
    folder_stages set env ++ (if is_disabled env then []
    else asked_then (late_refusal set env look) (calls (opening_steps set env found look) ++ more))

-- where the first checks refuse the settings, there is none
abbrev pub checked_then : Option PlanError → BuildConfig → EnvSeen → Found → Look → List Stage → List Stage
checked_then early set env found look more = if is_some early then [] else opened_then set env found look more

-- A run was opened by this part: nothing behind the first checks refuses it, and these are the commands that compile
-- its sources. No child was started, so it was opened on any terms, and nothing was used up.
pub record Opened (set : BuildConfig) (env : EnvSeen) (look : Look) (found : Found) (cmds : List Planned)
    (part : List Event) : Type 0 where
  pub enabled : is_disabled env ≡ false
  pub allowed : late_refusal set env look ≡ None
  pub commands : cmds ≡ compiles_planned set env found.here look
  pub went : (t : Terms) (x : Means)
      → Went t (folder_stages set env ++ Asks ∷ calls (opening_steps set env found look)) part x x

-- The run was opened on a host that listens or not, and these are its commands; or it ended with this error, before the
-- stages behind its opening, whichever these are and whatever refuses them.
abbrev pub RunOpens : BuildSeen → List ℕ → Bool → Result (Vec Planned) ErrorSeen → Look → List Event → Type 0
RunOpens b output listens (Ok cmds) look part =
    (found : Found) × (Hears listens found × Opened b.config b.env look found cmds.items part)
RunOpens b output listens (Err e) look part =
    (found : Found) × (Hears listens found
    × ((t : Terms) (x : Means) (refusal : Option ErrorSeen) (more : List Stage) → more ≢ []
    → Halted t (first_of (late_error b.config b.env look output) refusal)
    (opened_then b.config b.env found look more) part e x x))

-- it is a plan of this build for this output: where its library and the objects of its sources stand
pub record IsRunPlan (b : BuildSeen) (output : List ℕ) (plan : RunPlan) : Type 0 where
  pub dir : plan.sources.dir ≡ probe_folder b.config b.env
  pub name : plan.sources.name ≡ library_name output
  pub library : plan.sources.library ≡ library_of b.config b.env output
  pub objects : plan.sources.objects.items ≡ objects_of b.config b.env

-- Ok: the first checks pass, and the run was opened, on a host that listens or not. Else it ended before the stages
-- behind its opening, whichever these are and whatever refuses them.
abbrev pub PlanRunEnds : BuildSeen → Bool → List ℕ → Result RunPlan ErrorSeen → Look → List Event → Type 0
PlanRunEnds b listens output (Ok plan) look part =
    (found : Found)
    × (Hears listens found × (early_refusal b.config b.env output ≡ None)
    × (plan.shows ≡ shows_of b.config b.env listens)
    × Opened b.config b.env look found plan.commands.items part)
PlanRunEnds b listens output (Err e) look part =
    (found : Found) × (Hears listens found
    × ((t : Terms) (x : Means) (refusal : Option ErrorSeen) (more : List Stage) → more ≢ []
    → Halted t (first_of (early_error b.config b.env output) (first_of (late_error b.config b.env look output) refusal))
    (checked_then (early_refusal b.config b.env output) b.config b.env found look more) part e x x))

-- Ok: nothing behind the sources is refused, these commands were run, the library was written, and the lines for Cargo
-- were printed. Else the first of these stages were done, and the error has its cause. It is so whatever was found out
-- at the opening.
abbrev pub BehindOpening : {T : Type 0} → BuildSeen → List ℕ → Shows → List Planned → Result T ErrorSeen → Look
    → List Event → Course → Type 0
BehindOpening b output shows cmds result look part c =
    (found : Found) → Hears shows.listens found → (writing : Writing) × (firsts : Firsts) × (Repeats b.config firsts
    × Ends (terms shows c.total c.patience)
    (first_of (archive_error b.config b.env look output) (link_error b.config b.env look output))
    (beside cmds ++ later_stages b.config b.env (way_of found writing firsts) look output) part result c.before c.after)

-- the same of the commands of a plan that are chosen
abbrev pub RunPlanEnds : {T : Type 0} → BuildSeen → List ℕ → RunPlan → List Bool → Result T ErrorSeen → Look
    → List Event → Course → Type 0
RunPlanEnds b output plan choices = BehindOpening b output plan.shows (chosen choices plan.commands.items)
