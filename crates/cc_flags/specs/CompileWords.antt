-- The words of a compile command that are an object's own.
use Rattle.std.specs.Prelude.{ℕ, Bool, false, not, ◌&&◌, ◌||◌, List, [], ◌∷◌, ◌++◌, codes, if◌then◌else◌}
use Rattle.std.specs.Option.{option_map_or}
use Rattle.std.specs.Path.{path_extension}
use Rattle.cc_text.specs.Case.{lowered}
use Rattle.cc_text.specs.Words.{when}
use Rattle.cc_text.specs.declared.family.ToolFamily.{ToolFamily}
use Rattle.cc_target.specs.Targets.{Info, is_arm}
use Rattle.cc_flags.specs.declared.object.Object.{Object}
use Rattle.cc_text.specs.Families.{is_visual_studio, is_clang_cl, is_cl}
use Rattle.cc_flags.specs.CompilerNames.{name_of}
use Rattle.cc_flags.specs.declared.settings.BuildConfig.{BuildConfig}
use Rattle.cc_flags.specs.Texts.{is, word}

abbrev pub is_asm_extension : List ℕ → Bool
is_asm_extension extension = is (lowered extension) "asm" || is (lowered extension) "s"

-- the source is assembly
unfoldable pub is_asm : List ℕ → Bool
is_asm source = option_map_or is_asm_extension (path_extension source) false

-- the extension of assembly in the language of the Visual Studio tools
abbrev pub is_masm_extension : List ℕ → Bool
is_masm_extension extension = is (lowered extension) "asm"

-- the source is such assembly, for a target of those tools
unfoldable pub is_masm : Info → List ℕ → Bool
is_masm target source = is target.env "msvc" && option_map_or is_masm_extension (path_extension source) false

-- The object in one word, as the Visual Studio tools take it: their assemblers, and their compilers but for assembly for Arm.
unfoldable pub takes_one_word : ToolFamily → Info → List ℕ → Bool
takes_one_word family target source = is_masm target source || (is_visual_studio family && not (is_asm source && is_arm target))

-- the object
unfoldable pub object_words : ToolFamily → Info → Object → List (List ℕ)
object_words family target object =
    if takes_one_word family target object.src then (codes "-Fo" ++ object.dst) ∷ []
    else codes "-o" ∷ object.dst ∷ []

-- the name that stands for the object
unfoldable pub object_name_words : List ℕ → List (List ℕ)
object_name_words name = codes "-Xclang" ∷ (codes "-object-file-name=" ++ name) ∷ []

-- debug information in which no folder and no command line stands
unfoldable pub same_codeview_words : List ℕ → List (List ℕ)
same_codeview_words object =
    object_name_words (name_of object) ++ word "/clang:-gno-codeview-command-line" ++ word "/clang:-fdebug-compilation-dir=."

-- the same, where it is wanted and Clang takes the words of the Visual Studio compiler
unfoldable pub codeview_words : ToolFamily → Bool → Object → List (List ℕ)
codeview_words family reproducible object =
    when (reproducible && is_clang_cl family && not (is_asm object.src)) (same_codeview_words object.dst)

-- nothing is linked, which the assemblers for Arm aren't told
unfoldable pub object_only_words : Info → List ℕ → List (List ℕ)
object_only_words target source = when (not (is_masm target source && is_arm target)) (word "-c")

-- the extension by which the Visual Studio compiler doesn't know C++
abbrev pub has_extension_cc : List ℕ → Bool
has_extension_cc source = option_map_or (λ extension. is extension "cc") (path_extension source) false

-- the source, last; `is_bare` says that no dashes stand before it
unfoldable pub source_words : ToolFamily → Bool → Bool → List ℕ → List (List ℕ)
source_words family cpp is_bare source =
    if is_cl family && cpp && has_extension_cc source then (codes "-Tp" ++ source) ∷ []
    else when (is_clang_cl family && not is_bare) (word "--") ++ source ∷ []

-- the words of a command that expands a source, which follow those of the tool: before assembly no dashes stand, on any target
abbrev pub expand_words : ToolFamily → Bool → List ℕ → List (List ℕ)
expand_words family cpp source = word "-E" ++ source_words family cpp (is_asm source) source

-- the words of a compile command that follow those of the tool; an assembler takes no dashes before the source
abbrev pub compile_words : BuildConfig → ToolFamily → Info → Object → List (List ℕ)
compile_words set family target object =
    object_words family target object
    ++ codeview_words family set.reproducible_codeview object
    ++ object_only_words target object.src
    ++ when (is_asm object.src) set.asm_flags
    ++ source_words family set.cpp (is_masm target object.src) object.src
