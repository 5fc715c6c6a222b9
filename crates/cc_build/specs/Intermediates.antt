-- A run that compiles the sources alone: their objects are made, and nothing is archived or linked.
use Rattle.std.specs.Prelude.{◌≡◌, Bool, true, false, not, List, [], ◌∷◌, ◌++◌, Option, Result, OnOk, is_some, if◌then◌else◌}
use Rattle.std.specs.Option.{option_map}
use Rattle.cc_env.specs.Env.{EnvSeen}
use Rattle.cc_host.specs.Question.{Look}
use Rattle.cc_host.specs.declared.event.Event.{Event}
use Rattle.cc_host.specs.declared.event.Role.TheVariants.{Compile}
use Rattle.cc_flags.specs.Given.{is_disabled}
use Rattle.cc_plan.specs.Plan.{compiles_of}
use Rattle.cc_flags.specs.declared.variables.Reads.{Reads}
use Rattle.cc_plan.specs.Refusal.{is_empty, intermediate_refusal, late_refusal}
use Rattle.cc_flags.specs.Given.{first_of}
use Rattle.cc_flags.specs.declared.settings.BuildConfig.{BuildConfig}
use Rattle.cc_run.specs.Part.{started}
use Rattle.cc_run.specs.Planned.{asked}
use Rattle.cc_build.specs.Attempts.{FirstOf}
use Rattle.cc_build.specs.Build.{BuildSeen}
use Rattle.cc_build.specs.Children.{AllWell}
use Rattle.cc_build.specs.Course.{Course}
use Rattle.cc_build.specs.Error.{ErrorSeen}
use Rattle.cc_build.specs.Promises.{terms_for}
use Rattle.cc_build.specs.Refusal.{plan_error, late_error}
use Rattle.cc_build.specs.Stage.{Stage, planned, asked_then, folder_stages, name_stages, told_sources}
use Rattle.cc_build.specs.Stage.Stage.{Asks}
use Rattle.cc_build.specs.Way.{Found, Firsts, Hears, Repeats}
use Rattle.cc_build.specs.Went.{Terms, Goes, Ends}

-- what it reads variables for: where there is a source a compiler is planned and commands are run
abbrev pub source_reads : BuildConfig → Reads
source_reads set =
    record {
      disabled = true;
      debug = not (is_empty set.files);
      compiler = not (is_empty set.files);
      assembler = not (is_empty set.files);
      flag = false;
      archiver = false;
      ranlib = false;
      links = false;
    }

-- The folder is made where there is a source, and where commands may run the sources are compiled, and the lines of the
-- variables that were read are printed.
abbrev pub intermediate_stages : BuildConfig → EnvSeen → Found → Look → Firsts → List Stage
intermediate_stages set env found look firsts =
    if is_some (intermediate_refusal set env) then []
    else folder_stages set env
    ++ (if is_disabled env then []
    else asked_then (late_refusal set env look) (told_sources set env (source_reads set) found look firsts))

-- the error of settings that are refused: that of the first part which doesn't hold
abbrev pub intermediate_error : BuildConfig → EnvSeen → Look → Option ErrorSeen
intermediate_error set env look =
    first_of (option_map (plan_error set env []) (intermediate_refusal set env)) (late_error set env look [])

-- Ok: nothing is refused, and all stages were done. Else the first ones were, and the error has its cause.
abbrev pub IntermediateEnds : {T : Type 0} → BuildSeen → Bool → Result T ErrorSeen → Look → List Event → Course → Type 0
IntermediateEnds b listens result look part c =
    (found : Found) × (firsts : Firsts)
    × (Hears listens found × Repeats b.config firsts
    × Ends (terms_for b listens c) (intermediate_error b.config b.env look)
    (intermediate_stages b.config b.env found look firsts) part result c.before c.after)

-- one planned compile command per source was started, in the order added, and nothing else; and each of them has ended
-- with 0
pub record Compiled (t : Terms) (b : BuildSeen) (look : Look) (part : List Event) : Type 0 where
  pub compiles : started part ≡ asked t.shows (planned Compile (compiles_of b.config b.env look))
  pub ended : AllWell part
  pub runs : List Event
  pub lines : List Event
  pub cut : part ≡ runs ++ lines
  -- which of the lines that are printed once were printed here; where lines are repeated, all of them
  pub firsts : Firsts
  pub repeats : Repeats b.config firsts
  -- behind all of this questions were asked, and then exactly the lines of the variables that were read were printed
  pub told : Goes t (Asks ∷ name_stages b.config b.env (source_reads b.config) look firsts) lines

-- no command but the planned compile commands, in the order in which the sources were added, with one attempt for each
abbrev pub CompilesFirst : BuildSeen → Look → List Event → Type 0
CompilesFirst b look part = FirstOf (planned Compile (compiles_of b.config b.env look)) part

-- Ok: the sources are compiled
abbrev pub AreCompiled : {T : Type 0} → BuildSeen → Bool → Result T ErrorSeen → Look → List Event → Course → Type 0
AreCompiled b listens result look part c = OnOk result (Compiled (terms_for b listens c) b look part)
