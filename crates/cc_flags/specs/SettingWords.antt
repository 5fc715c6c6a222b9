-- The words that settings bring, whatever the target: a definition a group.
use Rattle.std.specs.Prelude.{ℕ, Bool, true, ◌&&◌, ◌||◌, List, [], ◌∷◌, ◌++◌, Option, Some, None, unwrap_or, is_none, map, codes, if◌then◌else◌}
use Rattle.std.specs.List.{flat_map, list_any, before_first}
use Rattle.cc_text.specs.Words.{when, is_among}
use Rattle.cc_text.specs.declared.family.ToolFamily.{ToolFamily}
use Rattle.cc_flags.specs.declared.build_flags.BuildFlag.{BuildFlag}
use Rattle.cc_flags.specs.declared.build_flags.BuildFlag.TheVariants.{Always, IfSupported}
use Rattle.cc_flags.specs.declared.build_flags.Definition.{Definition}
use Rattle.cc_text.specs.Families.{is_visual_studio, is_gnu_like}
use Rattle.cc_flags.specs.Texts.{is, word}

abbrev pub standard_flag : ToolFamily → List ℕ
standard_flag family = if is_visual_studio family then codes "-std:" else codes "-std="

-- the standard of the language
unfoldable pub standard_words : ToolFamily → Option (List ℕ) → List (List ℕ)
standard_words family None = []
standard_words family (Some standard) = (standard_flag family ++ standard) ∷ []

-- `-I` and the folder, for each
unfoldable pub include_words : List (List ℕ) → List (List ℕ)
include_words folders = flat_map (λ folder. codes "-I" ∷ folder ∷ []) folders

-- warnings are errors
unfoldable pub error_words : ToolFamily → Bool → List (List ℕ)
error_words family into_errors = when into_errors (if is_visual_studio family then word "-WX" else word "-Werror")

-- the usual warnings, where they are on; none at all, where they are off
unfoldable pub warnings_word : ToolFamily → Bool → List (List ℕ)
warnings_word family on =
    if on then (if is_visual_studio family then word "-W4" else word "-Wall")
    else (if is_visual_studio family then word "-W0" else word "-w")

-- warnings that aren't set are on, where the environment has no flags of its own, and else left to those
unfoldable pub warning_words : ToolFamily → Option Bool → Option (List (List ℕ)) → List (List ℕ)
warning_words family (Some on) environment = warnings_word family on
warning_words family None environment = when (is_none environment) (warnings_word family true)

unfoldable pub extra_warning_words : ToolFamily → Option Bool → Option (List (List ℕ)) → List (List ℕ)
extra_warning_words family extra environment = when (is_gnu_like family && unwrap_or extra (is_none environment)) (word "-Wextra")

-- what follows is for the linker
abbrev pub is_link : List ℕ → Bool
is_link text = is text "/link" || is text "-link"

abbrev pub text_of : BuildFlag → List ℕ
text_of (Always flag) = flag
text_of (IfSupported flag) = flag

abbrev pub is_link_flag : BuildFlag → Bool
is_link_flag flag = is_link (text_of flag)

-- the front of a list before the first of which something holds
abbrev pub before : {X : Type 0} → (X → Bool) → List X → List X
before p xs = before_first p xs

-- the flags that the compiler is given: for Visual Studio those before what is for the linker
unfoldable pub compiler_flags : ToolFamily → List BuildFlag → List BuildFlag
compiler_flags family flags = if is_visual_studio family then before is_link_flag flags else flags

-- the same of words
unfoldable pub compiler_words : ToolFamily → List (List ℕ) → List (List ℕ)
compiler_words family words = if is_visual_studio family then before is_link words else words

-- a flag that is always given, or one that stands among the supported ones
abbrev pub flag_word : List (List ℕ) → BuildFlag → List (List ℕ)
flag_word supported (Always flag) = flag ∷ []
flag_word supported (IfSupported flag) = when (is_among supported flag) (flag ∷ [])

unfoldable pub flag_words : ToolFamily → List (List ℕ) → List BuildFlag → List (List ℕ)
flag_words family supported flags = flat_map (flag_word supported) (compiler_flags family flags)

-- a flag that a compiler is asked about
abbrev pub flag_ask : BuildFlag → List (List ℕ)
flag_ask (Always flag) = []
flag_ask (IfSupported flag) = flag ∷ []

unfoldable pub flag_asks : ToolFamily → List BuildFlag → List (List ℕ)
flag_asks family flags = flat_map flag_ask (compiler_flags family flags)

abbrev pub value_of : Option (List ℕ) → List ℕ
value_of None = []
value_of (Some value) = codes "=" ++ value

-- `-D` and the name of the macro, with `=` and the value where it has one
abbrev pub definition_word : Definition → List ℕ
definition_word definition = codes "-D" ++ definition.name ++ value_of definition.value

unfoldable pub definition_words : List Definition → List (List ℕ)
definition_words definitions = map definition_word definitions

-- the flags of the environment
unfoldable pub environment_words : ToolFamily → Option (List (List ℕ)) → List (List ℕ)
environment_words family environment = compiler_words family (unwrap_or environment [])

-- flags are left off that are for the linker
unfoldable pub leaves_off : ToolFamily → List BuildFlag → Option (List (List ℕ)) → Bool
leaves_off family flags environment = is_visual_studio family && (list_any is_link_flag flags || list_any is_link (unwrap_or environment []))
