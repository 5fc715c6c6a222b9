-- The tools of archives of a build.
use Rattle.std.specs.Prelude.{◌≡◌, ◌⊎◌, Bool, List, [], Option, Some, None, Result}
use Rattle.std.specs.Option.{option_map}
use Rattle.cc_env.specs.Env.{EnvSeen}
use Rattle.cc_host.specs.Command.{CommandSeen}
use Rattle.cc_host.specs.Question.{Look}
use Rattle.cc_host.specs.declared.event.Event.{Event}
use Rattle.cc_host.specs.declared.question.Outcome.{Outcome}
use Rattle.cc_host.specs.declared.question.Question.{Question}
use Rattle.cc_plan.specs.Archive.{archiver_of, ranlib_cmd_of}
use Rattle.cc_plan.specs.Questions.{ArchiverAsks, RanlibAsks}
use Rattle.cc_plan.specs.Refusal.{archiver_refusal, ranlib_refusal}
use Rattle.cc_plan.specs.declared.error.PlanError.{PlanError}
use Rattle.cc_flags.specs.declared.settings.BuildConfig.{BuildConfig}
use Rattle.cc_tool.specs.Asked.{Asked}
use Rattle.cc_build.specs.Build.{BuildSeen, probes}
use Rattle.cc_build.specs.Error.{ErrorSeen, no_memory}
use Rattle.cc_build.specs.Refusal.{plan_error}
use Rattle.cc_build.specs.Told.{archiver_reads, ranlib_reads, DoesAndTells}

-- nothing is refused, and this is the archiver's command
pub record IsArchiver (set : BuildConfig) (env : EnvSeen) (cmd : CommandSeen) (look : Look) : Type 0 where
  pub allowed : archiver_refusal set env look ≡ None
  pub is : cmd ≡ (archiver_of set env look).cmd

-- nothing is refused, and this is the command of the tool that writes an index
pub record IsRanlib (set : BuildConfig) (env : EnvSeen) (cmd : CommandSeen) (look : Look) : Type 0 where
  pub allowed : ranlib_refusal set env look ≡ None
  pub is : cmd ≡ ranlib_cmd_of set env look

-- the settings are refused with this error, or memory was wanted
abbrev pub IsUnfound : (Look → Option PlanError) → BuildConfig → EnvSeen → ErrorSeen → Look → Type 0
IsUnfound refusal set env e look = (e ≡ no_memory) ⊎ (option_map (plan_error set env []) (refusal look) ≡ Some e)

-- a build is refused so where an archiver is sought
abbrev pub LacksArchiver : BuildSeen → ErrorSeen → Look → Type 0
LacksArchiver b e look = IsUnfound (archiver_refusal b.config b.env) b.config b.env e look

-- the same where the tool that writes an index is
abbrev pub LacksRanlib : BuildSeen → ErrorSeen → Look → Type 0
LacksRanlib b e look = IsUnfound (ranlib_refusal b.config b.env) b.config b.env e look

-- each question of a part is one that finds the archiver of a build
abbrev pub AsksForArchiver : Bool → (Question → Outcome) → BuildSeen → List Event → Type 0
AsksForArchiver steady world b part = Asked steady world (probes b) (ArchiverAsks b.config b.env) part

-- the same of the tool that writes an index
abbrev pub AsksForRanlib : Bool → (Question → Outcome) → BuildSeen → List Event → Type 0
AsksForRanlib steady world b part = Asked steady world (probes b) (RanlibAsks b.config b.env) part

-- the error of settings that have no archiver
abbrev pub archiver_error : BuildConfig → EnvSeen → Look → Option ErrorSeen
archiver_error set env look = option_map (plan_error set env []) (archiver_refusal set env look)

-- the same of the tool that writes an index
abbrev pub ranlib_error : BuildConfig → EnvSeen → Look → Option ErrorSeen
ranlib_error set env look = option_map (plan_error set env []) (ranlib_refusal set env look)

-- beside the questions the lines of the variables that were read were printed alone, or the error has its cause
abbrev pub ArchiverEnds : {T : Type 0} → BuildConfig → EnvSeen → Result T ErrorSeen → Look → List Event → Type 0
ArchiverEnds set env result look part =
    DoesAndTells archiver_reads set env (archiver_error set env look) [] result look part

abbrev pub RanlibEnds : {T : Type 0} → BuildConfig → EnvSeen → Result T ErrorSeen → Look → List Event → Type 0
RanlibEnds set env result look part = DoesAndTells ranlib_reads set env (ranlib_error set env look) [] result look part
