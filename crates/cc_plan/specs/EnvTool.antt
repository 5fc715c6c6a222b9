-- The tool that a variable of the environment names, with the wrapper that it is run through.
use Rattle.std.specs.Prelude.{ℕ, List, [], ◌∷◌, Option, Some, None, codes, if◌then◌else◌}
use Rattle.std.specs.Str.{trim}
use Rattle.cc_env.specs.Env.{EnvSeen}
use Rattle.cc_text.specs.Pieces.{has_bytes}
use Rattle.cc_tool.specs.Notes.{named}
use Rattle.cc_tool.specs.Plans.{Plan, bind, done, note}
use Rattle.cc_flags.specs.Blanks.{white_words}
use Rattle.cc_flags.specs.Given.{prefixed_value}
use Rattle.cc_flags.specs.Variables.{value_names}
use Rattle.cc_plan.specs.Search.{is_there}
use Rattle.cc_flags.specs.declared.choice.Choice.{Choice}
use Rattle.cc_flags.specs.declared.settings.BuildConfig.{BuildConfig}
use Rattle.cc_flags.specs.Wrappers.{in_rustc_wrapper, tool_in_words}

-- what the words of a text say, among which may be wrappers that another variable names
unfoldable pub words_tool : EnvSeen → List ℕ → Plan (Option Choice)
words_tool env text =
    bind (note (named (codes "CC_KNOWN_WRAPPER_CUSTOM" ∷ []))) (λ noted. done (tool_in_words env (white_words text)))

-- the tool in a text that has a byte: the whole text where that is a file, else what its words say
unfoldable pub file_or_words : EnvSeen → List ℕ → Plan (Option Choice)
file_or_words env text =
    bind (is_there text) (λ there. if there then done (Some (in_rustc_wrapper env text [])) else words_tool env text)

-- the tool in a text
unfoldable pub tool_in_text : EnvSeen → List ℕ → Plan (Option Choice)
tool_in_text env text = if has_bytes text then file_or_words env text else done None

-- the tool in the value of a variable
unfoldable pub tool_in_value : EnvSeen → Option (List ℕ) → Plan (Option Choice)
tool_in_value env None = done None
tool_in_value env (Some value) = tool_in_text env (trim value)

-- the tool of a variable
unfoldable pub env_tool : BuildConfig → EnvSeen → List ℕ → Plan (Option Choice)
env_tool set env variable =
    bind (note (named (value_names set env variable))) (λ noted. tool_in_value env (prefixed_value set env variable))
