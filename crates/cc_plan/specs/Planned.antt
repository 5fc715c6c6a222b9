-- The planned tool, as a function of all verdicts.
use Rattle.std.specs.Prelude.{ℕ, Bool, List, Option}
use Rattle.cc_env.specs.Env.{EnvSeen}
use Rattle.cc_host.specs.Question.{Look}
use Rattle.cc_tool.specs.Tool.{ToolSeen}
use Rattle.cc_flags.specs.Compilation.{CompilationSeen, compilation_of}
use Rattle.cc_plan.specs.Compiler.{compiler_of}
use Rattle.cc_plan.specs.Support.{supported}
use Rattle.cc_plan.specs.Tool.{tool_by, warnings_by, defaults_refusal_by}
use Rattle.cc_plan.specs.declared.error.PlanError.{PlanError}
use Rattle.cc_flags.specs.declared.settings.BuildConfig.{BuildConfig}

-- the compilation of these settings, with the compiler of these verdicts
abbrev pub planned : BuildConfig → EnvSeen → Look → CompilationSeen
planned set env look = compilation_of set env (compiler_of set env look)

-- what the words of the target and the level are refused for, with the compiler of these verdicts
abbrev pub defaults_refusal_of : BuildConfig → EnvSeen → Look → Option PlanError
defaults_refusal_of set env look = defaults_refusal_by set env (compiler_of set env look)

-- the words that its compiler takes of those that it is asked about
abbrev pub supported_of : BuildConfig → EnvSeen → Look → List (List ℕ)
supported_of set env look = supported (planned set env look) look

-- the texts of the warnings, where the call is the first of its caches that leaves off flags for the linker, or not
abbrev pub warnings_of : BuildConfig → EnvSeen → Bool → Look → List (List ℕ)
warnings_of set env is_first look = warnings_by (planned set env look) (supported_of set env look) is_first

-- the tool
abbrev pub tool_of : BuildConfig → EnvSeen → Look → ToolSeen
tool_of set env look = tool_by (planned set env look) (supported_of set env look)
