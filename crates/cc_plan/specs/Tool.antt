-- The planned tool: the compiler with the words and variables that every compile command has.
use Rattle.std.specs.Prelude.{ℕ, Bool, List, [], ◌∷◌, ◌++◌, ◌&&◌, ◌||◌, Option}
use Rattle.cc_env.specs.Env.{EnvSeen}
use Rattle.cc_text.specs.Quoted.{quoted}
use Rattle.cc_tool.specs.Family.{detection_warnings}
use Rattle.cc_tool.specs.Tool.{ToolSeen, new_tool}
use Rattle.cc_flags.specs.Compilation.{CompilationSeen, compilation_of}
use Rattle.cc_flags.specs.Given.{environment_flags}
use Rattle.cc_flags.specs.SettingWords.{leaves_off}
use Rattle.cc_flags.specs.ToolWords.{tool_words, tool_warnings}
use Rattle.cc_plan.specs.Checks.{defaults_refusal}
use Rattle.cc_flags.specs.declared.compiler.Compiler.{Compiler}
use Rattle.cc_plan.specs.declared.error.PlanError.{PlanError}
use Rattle.cc_flags.specs.declared.settings.BuildConfig.{BuildConfig}
use Rattle.cc_plan.specs.declared.tool.QuietTool.{QuietTool}
use Rattle.cc_plan.specs.declared.tool.Unmarked.{Unmarked}
use Rattle.cc_flags.specs.Warnings.{gnu_warnings, lacks_by, language_variable, link_warning, link_warnings}

-- what the words of the target and the level are refused for
unfoldable pub defaults_refusal_by : BuildConfig → EnvSeen → Compiler → Option PlanError
defaults_refusal_by set env compiler = defaults_refusal (compilation_of set env compiler)

-- warnings with that one, where the call is the first or not
abbrev pub marked_by : BuildConfig → Unmarked → Bool → List (List ℕ)
marked_by set unmarked is_first =
    unmarked.warnings ++ link_warning (unmarked.leaves_off && (set.repeat_lines || is_first))

-- how the family of the compiler was found
abbrev pub detected_warnings : Compiler → List (List ℕ)
detected_warnings compiler = detection_warnings compiler.detected (quoted compiler.choice.path)

-- and that it isn't one for the target
abbrev pub found_warnings : CompilationSeen → List (List ℕ)
found_warnings c = detected_warnings c.compiler ++ gnu_warnings c

-- what a user is warned of, but for flags that are left off
abbrev pub other_warnings : CompilationSeen → List (List ℕ) → List (List ℕ)
other_warnings c supported = found_warnings c ++ tool_warnings c ++ lacks_by c supported

-- what a user is warned of
abbrev pub warnings_by : CompilationSeen → List (List ℕ) → Bool → List (List ℕ)
warnings_by c supported is_first = other_warnings c supported ++ link_warnings c.set c.env c.compiler.family is_first

-- what a user may be warned of
abbrev pub unmarked_by : CompilationSeen → List (List ℕ) → Unmarked
unmarked_by c supported =
    record {
      warnings = other_warnings c supported;
      leaves_off = leaves_off c.compiler.family c.set.flags (environment_flags c.set c.env);
    }

-- the compiler with its wrapper
abbrev pub wrapped_tool : EnvSeen → Compiler → ToolSeen
wrapped_tool env compiler =
    record (new_tool compiler.choice.path compiler.family env.inherited) { wrapper = compiler.choice.wrapper }

-- the tool of a compilation, where these words are supported
abbrev pub tool_by : CompilationSeen → List (List ℕ) → ToolSeen
tool_by c supported = record {
  path = c.compiler.choice.path;
  family = c.compiler.family;
  inherited = c.env.inherited;
  wrapper = c.compiler.choice.wrapper;
  wrapper_words = c.compiler.choice.words;
  args = tool_words c supported;
  removed = [];
  entries = language_variable c.compiler.family ∷ c.env.explicit;
}

-- the same with what a user may be warned of
abbrev pub quiet_by : CompilationSeen → List (List ℕ) → QuietTool
quiet_by c supported = record { tool = tool_by c supported; unmarked = unmarked_by c supported }
