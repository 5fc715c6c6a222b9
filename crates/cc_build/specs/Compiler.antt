-- The compiler of a build: why it is refused, and what its plan prints.
use Rattle.std.specs.Prelude.{◌≡◌, Bool, List, [], Option, Result}
use Rattle.std.specs.Option.{option_map}
use Rattle.cc_env.specs.Env.{EnvSeen}
use Rattle.cc_host.specs.Question.{Look}
use Rattle.cc_host.specs.Part.{Step}
use Rattle.cc_host.specs.declared.event.Event.{Event}
use Rattle.cc_flags.specs.declared.settings.BuildConfig.{BuildConfig}
use Rattle.cc_plan.specs.Plan.{tool_warnings}
use Rattle.cc_plan.specs.Planned.{tool_of}
use Rattle.cc_plan.specs.Refusal.{tool_refusal}
use Rattle.cc_tool.specs.Tool.{ToolSeen}
use Rattle.cc_build.specs.Error.{ErrorSeen}
use Rattle.cc_build.specs.Outcome.{Outcome}
use Rattle.cc_build.specs.Refusal.{plan_error}
use Rattle.cc_build.specs.Told.{compiler_reads, DoesAndTells}

-- the error of settings that have no compiler
abbrev pub tool_error : BuildConfig → EnvSeen → Look → Option ErrorSeen
tool_error set env look = option_map (plan_error set env []) (tool_refusal set env look)

-- its warnings are given to the host; `warns_of_link` says whether the call is one that warns of flags for the linker
abbrev pub tool_steps : BuildConfig → EnvSeen → Bool → Bool → Look → List Step
tool_steps set env listens warns_of_link look = tool_warnings set env listens warns_of_link look

-- this is the planned tool
abbrev pub IsTool : BuildConfig → EnvSeen → ToolSeen → Look → Type 0
IsTool set env tool look = tool ≡ tool_of set env look

-- its warnings were given to the host, or the error has its cause
abbrev pub ToolEnds : {T : Type 0} → BuildConfig → EnvSeen → Bool → Result T ErrorSeen → Look → List Event → Type 0
ToolEnds set env listens result look part =
    (warns_of_link : Bool)
    × Outcome (tool_error set env look) (tool_steps set env listens warns_of_link look) part result

-- those warnings were given to the host, and behind them the lines of the variables that were read, or the error has
-- its cause
abbrev pub CompilerEnds : {T : Type 0} → BuildConfig → EnvSeen → Bool → Result T ErrorSeen → Look → List Event → Type 0
CompilerEnds set env listens result look part =
    (warns_of_link : Bool)
    × DoesAndTells compiler_reads set env (tool_error set env look)
    (tool_steps set env listens warns_of_link look) result look part
