-- The words that the Visual Studio compilers take for a target and an optimisation level.
use Rattle.std.specs.Prelude.{ℕ, Bool, true, not, ◌||◌, List, [], ◌∷◌, ◌++◌, Option, unwrap_or, if◌then◌else◌}
use Rattle.cc_text.specs.Words.{when, choose, entry}
use Rattle.cc_text.specs.declared.family.ToolFamily.{ToolFamily}
use Rattle.cc_target.specs.Targets.{Info}
use Rattle.cc_flags.specs.DefaultWords.{target_words}
use Rattle.cc_text.specs.Families.{is_visual_studio, is_clang_cl}
use Rattle.cc_flags.specs.Texts.{is, word}

-- a level that asks for small code
unfoldable pub is_small : List ℕ → Bool
is_small level = is level "z" || is level "s" || is level "1"

-- a level that asks for fast code
unfoldable pub is_fast : List ℕ → Bool
is_fast level = is level "2" || is level "3"

-- no banner, the C library, which is linked statically or not, and the level
unfoldable pub visual_studio_words : ToolFamily → Option Bool → Bool → List ℕ → List (List ℕ)
visual_studio_words family static_crt crt level =
    let static = unwrap_or static_crt crt in
    when (is_visual_studio family) (choose (
    entry true ("-nologo" ∷ [])
    ∷ entry static ("-MT" ∷ [])
    ∷ entry (not static) ("-MD" ∷ [])
    ∷ entry (is_small level) ("-O1" ∷ [])
    ∷ entry (is_fast level) ("-O2" ∷ [])
    ∷ []))

-- instructions that every processor of Rust's target has
unfoldable pub sse_words : Info → List (List ℕ)
sse_words target = when (is target.arch "x86") (word "-arch:SSE2")

-- what tells Clang in this form its target
unfoldable pub clang_cl_words : Info → List ℕ → List (List ℕ)
clang_cl_words target llvm = target_words llvm ++ sse_words target

-- what tells the Visual Studio compiler itself of its target
unfoldable pub cl_words : Info → List (List ℕ)
cl_words target = choose (
    entry (is target.full_arch "i586") ("-arch:IA32" ∷ [])
    ∷ entry (is target.full_arch "arm64ec") ("-arm64EC" ∷ [])
    ∷ [])

unfoldable pub instruction_words : ToolFamily → Info → List ℕ → List (List ℕ)
instruction_words family target llvm = if is_clang_cl family then clang_cl_words target llvm else cl_words target

-- headers of Windows are those of a desktop
unfoldable pub desktop_words : Info → List (List ℕ)
desktop_words target = when (is target.arch "arm") (word "-D_ARM_WINAPI_PARTITION_DESKTOP_SDK_AVAILABLE=1")

-- the same bytes at each build, and the target
unfoldable pub visual_studio_target_words : ToolFamily → Info → List ℕ → List (List ℕ)
visual_studio_target_words family target llvm = when (is_visual_studio family) (
    word "-Brepro" ++ instruction_words family target llvm ++ desktop_words target)
