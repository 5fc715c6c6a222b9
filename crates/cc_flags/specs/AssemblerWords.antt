-- What the assemblers of Visual Studio are called, and their words.
use Rattle.std.specs.Prelude.{ℕ, Bool, false, not, ◌&&◌, ◌||◌, List, [], ◌∷◌, ◌++◌, codes, if◌then◌else◌}
use Rattle.std.specs.List.{list_any}
use Rattle.std.specs.Option.{option_map_or}
use Rattle.std.specs.Path.{path_file_stem}
use Rattle.cc_env.specs.Env.{EnvSeen}
use Rattle.cc_flags.specs.DebugWords.{has_debug}
use Rattle.cc_flags.specs.Texts.{is, word}
use Rattle.cc_target.specs.Targets.{Info, is_arm}
use Rattle.cc_text.specs.Case.{starts_ignoring_case}
use Rattle.cc_text.specs.Words.{when, choose, entry}
use Rattle.cc_flags.specs.CompileWords.{is_masm}
use Rattle.cc_flags.specs.Given.{or_variable}
use Rattle.cc_flags.specs.Predefine.{predefine_words}
use Rattle.cc_flags.specs.SettingWords.{include_words, definition_words}
use Rattle.cc_flags.specs.declared.choice.Choice.{Choice}
use Rattle.cc_flags.specs.declared.build_flags.Definition.{Definition}
use Rattle.cc_flags.specs.declared.settings.BuildConfig.{BuildConfig}

-- that of Visual Studio
unfoldable pub studio_assembler : Info → List ℕ
studio_assembler target =
    if is target.arch "x86_64" then codes "ml64.exe"
    else (if is target.arch "arm" then codes "armasm.exe"
    else (if is target.arch "aarch64" || is target.arch "arm64ec" then codes "armasm64.exe"
    else codes "ml.exe"))

-- an architecture that that of LLVM knows
unfoldable pub is_x86 : Info → Bool
is_x86 target = is target.arch "x86" || is target.arch "x86_64"

-- it is that of LLVM, by the stem of its file's name
unfoldable pub is_llvm : List ℕ → Bool
is_llvm path = option_map_or (λ stem. starts_ignoring_case stem (codes "llvm-ml")) (path_file_stem path) false

-- which x86 it assembles for, which that of LLVM is told
unfoldable pub width_words : Info → List ℕ → List (List ℕ)
width_words target path = choose (
    entry (is_llvm path && is target.arch "x86_64") ("-m64" ∷ [])
    ∷ entry (is_llvm path && is target.arch "x86") ("-m32" ∷ [])
    ∷ [])

-- for Arm: debug information, and which of its two machines of 64 bits it is
unfoldable pub machine_words : Info → Bool → List (List ℕ)
machine_words target debug = choose (
    entry debug ("-g" ∷ [])
    ∷ entry (is target.arch "arm64ec") ("-machine" ∷ "ARM64EC" ∷ [])
    ∷ [])

-- and the symbols
unfoldable pub arm_words : Info → Bool → List Definition → List (List ℕ)
arm_words target debug definitions = machine_words target debug ++ predefine_words definitions

-- for others: debug information, of which that of LLVM has none, and the macros
unfoldable pub masm_words : List ℕ → Bool → List Definition → List (List ℕ)
masm_words path debug definitions = when (debug && not (is_llvm path)) (word "-Zi") ++ definition_words definitions

abbrev pub language_words : Info → List ℕ → Bool → List Definition → List (List ℕ)
language_words target path debug definitions = if is_arm target then arm_words target debug definitions else masm_words path debug definitions

-- the handlers of exceptions are told the linker, which x86 wants
unfoldable pub handler_words : Info → List (List ℕ)
handler_words target = when (is target.arch "x86") (word "-safeseh")

-- debug information is wanted: as it is set, else as Cargo says
abbrev pub wants_debug : BuildConfig → EnvSeen → Bool
wants_debug set env = has_debug (or_variable set.debug env (codes "DEBUG"))

-- the words, among them those that stand behind its name in the environment
abbrev pub assembler_words : BuildConfig → EnvSeen → Info → Choice → List (List ℕ)
assembler_words set env target choice =
    width_words target choice.path
    ++ choice.words
    ++ word "-nologo"
    ++ include_words set.includes
    ++ language_words target choice.path (wants_debug set env) set.definitions
    ++ handler_words target

-- one of the sources wants an assembler
abbrev pub want_assembler : Info → List (List ℕ) → Bool
want_assembler target sources = list_any (is_masm target) sources
