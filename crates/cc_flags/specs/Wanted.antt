-- The words of a C compiler that say what the rustflags say, one definition a group.
use Rattle.std.specs.Prelude.{ℕ, Bool, List, [], ◌∷◌, ◌++◌, ◌==◌, ◌||◌, Option, Some, None, codes, flat_map, encode_utf8, unwrap_or, not, false, if◌then◌else◌}
use Rattle.std.specs.Option.{option_to_list}
use Rattle.std.specs.Fmt.{decimal}
use Rattle.std.specs.Str.{chars}
use Prim.Native.String.{String}
use Rattle.cc_text.specs.Within.{is_within}
use Rattle.cc_text.specs.Words.{when, choose, entry}
use Rattle.cc_text.specs.declared.family.ToolFamily.{ToolFamily}
use Rattle.cc_text.specs.declared.family.ToolFamily.TheVariants.{Gnu, Clang, Msvc}
use Rattle.cc_target.specs.Targets.{Info}
use Rattle.cc_flags.specs.Pairs.{is}
use Rattle.cc_flags.specs.Fields.{is_yes, is_no}
use Rattle.cc_flags.specs.Features.{feature_word}
use Rattle.cc_flags.specs.declared.flags.RustcCodegenFlags.{RustcCodegenFlags}

-- one word
abbrev pub word : String → List (List ℕ)
word literal = codes literal ∷ []

-- a word that ends in a value
abbrev pub joined : String → List ℕ → List (List ℕ)
joined front value = (codes front ++ value) ∷ []

-- C compilers part the kinds of branch protection by `+`
abbrev pub plus_for_comma : ℕ → ℕ
plus_for_comma c = if c == 44 then 43 else c

unfoldable pub branch_protection_word : List ℕ → List (List ℕ)
branch_protection_word kinds = joined "-mbranch-protection=" (flat_map (λ c. encode_utf8 (plus_for_comma c)) (chars kinds))

unfoldable pub branch_protection_words : Option (List ℕ) → List (List ℕ)
branch_protection_words None = []
branch_protection_words (Some kinds) = branch_protection_word kinds

unfoldable pub code_model_words : Option (List ℕ) → List (List ℕ)
code_model_words None = []
code_model_words (Some model) = joined "-mcmodel=" model

unfoldable pub vector_words : Bool → Bool → List (List ℕ)
vector_words no_loops no_slp = choose (
    entry no_loops ("-fno-vectorize" ∷ [])
    ∷ entry no_slp ("-fno-slp-vectorize" ∷ [])
    ∷ [])

unfoldable pub relocation_word : List ℕ → List (List ℕ)
relocation_word model =
    if is model "pic" then word "-fPIC"
    else (if is model "pie" then word "-fPIE"
    else (if is model "dynamic-no-pic" then word "-mdynamic-no-pic"
    else []))

unfoldable pub relocation_words : Option (List ℕ) → List (List ℕ)
relocation_words None = []
relocation_words (Some model) = relocation_word model

unfoldable pub frame_pointer_words : Option Bool → List (List ℕ)
frame_pointer_words force = when (unwrap_or force false) (word "-fno-omit-frame-pointer" ++ word "-mno-omit-leaf-frame-pointer")

-- a word for yes, another for no, and none where nothing is said
abbrev pub switched : List ℕ → List ℕ → Option Bool → List (List ℕ)
switched on_word off_word None = []
switched on_word off_word (Some on) = (if on then on_word else off_word) ∷ []

abbrev pub switch_words : String → String → Option Bool → List (List ℕ)
switch_words on_word off_word value = switched (codes on_word) (codes off_word) value

unfoldable pub red_zone_words : Option Bool → List (List ℕ)
red_zone_words no_redzone = switch_words "-mno-red-zone" "-mred-zone" no_redzone

unfoldable pub float_words : Option Bool → List (List ℕ)
float_words soft = switch_words "-msoft-float" "-mhard-float" soft

unfoldable pub dwarf_words : Option ℕ → List (List ℕ)
dwarf_words None = []
dwarf_words (Some version) = joined "-gdwarf-" (decimal version)

unfoldable pub stack_protector_word : List ℕ → List (List ℕ)
stack_protector_word strength =
    if is strength "strong" then word "-fstack-protector-strong"
    else (if is strength "all" then word "-fstack-protector-all"
    else [])

unfoldable pub stack_protector_words : Option (List ℕ) → List (List ℕ)
stack_protector_words None = []
stack_protector_words (Some strength) = stack_protector_word strength

unfoldable pub feature_words : List ℕ → List (List ℕ) → List (List ℕ)
feature_words arch features = flat_map (λ feature. option_to_list (feature_word arch feature)) features

-- what GCC and Clang take of the code's form
unfoldable pub code_words : RustcCodegenFlags → List (List ℕ)
code_words flags =
    branch_protection_words flags.branch_protection
    ++ code_model_words flags.code_model
    ++ vector_words flags.no_vectorize_loops flags.no_vectorize_slp
    ++ relocation_words flags.relocation_model
    ++ frame_pointer_words flags.force_frame_pointers

-- what they take of the machine
unfoldable pub machine_words : RustcCodegenFlags → Info → List (List ℕ)
machine_words flags target =
    red_zone_words flags.no_redzone
    ++ float_words flags.soft_float
    ++ dwarf_words flags.dwarf_version
    ++ stack_protector_words flags.stack_protector
    ++ feature_words target.arch flags.target_features

unfoldable pub embed_bitcode_words : Option Bool → List (List ℕ)
embed_bitcode_words embed = switch_words "-fembed-bitcode=all" "-fembed-bitcode=off" embed

unfoldable pub plugin_words : Option Bool → List (List ℕ)
plugin_words plugin = choose (entry (unwrap_or plugin false) ("-flto=thin" ∷ []) ∷ [])

-- a value that asks the control flow guard for its checks
unfoldable pub is_checks : List ℕ → Bool
is_checks value = is_yes value || is value "checks"

unfoldable pub is_nochecks : List ℕ → Bool
is_nochecks value = is value "nochecks"

unfoldable pub clang_guard_word : List ℕ → List (List ℕ)
clang_guard_word value =
    if is_checks value then word "-mguard=cf"
    else (if is_nochecks value then word "-mguard=cf-nochecks"
    else (if is_no value then word "-mguard=none"
    else []))

unfoldable pub clang_guard_words : Option (List ℕ) → List (List ℕ)
clang_guard_words None = []
clang_guard_words (Some value) = clang_guard_word value

-- what Clang takes alone
unfoldable pub clang_words : RustcCodegenFlags → List (List ℕ)
clang_words flags =
    embed_bitcode_words flags.embed_bitcode ++ plugin_words flags.linker_plugin_lto ++ clang_guard_words flags.control_flow_guard

-- it has no word for `nochecks`
unfoldable pub msvc_guard_word : List ℕ → List (List ℕ)
msvc_guard_word value =
    if is_checks value then word "/guard:cf"
    else (if is_no value then word "/guard:cf-"
    else [])

unfoldable pub msvc_guard_words : Option (List ℕ) → List (List ℕ)
msvc_guard_words None = []
msvc_guard_words (Some value) = msvc_guard_word value

-- an architecture of 64 bits keeps no frame pointers by a word of the Visual Studio compiler
unfoldable pub msvc_frame_pointer_words : List ℕ → Option Bool → List (List ℕ)
msvc_frame_pointer_words arch force = when (not (is_within (codes "64") arch)) (switch_words "/Oy-" "/Oy" force)

-- what the Visual Studio compiler takes
unfoldable pub msvc_words : RustcCodegenFlags → Info → List (List ℕ)
msvc_words flags target = msvc_guard_words flags.control_flow_guard ++ msvc_frame_pointer_words target.arch flags.force_frame_pointers

-- the words of a family
abbrev pub wanted : RustcCodegenFlags → ToolFamily → Info → List (List ℕ)
wanted flags Gnu target = code_words flags ++ machine_words flags target
wanted flags (Clang zig_cc) target = code_words flags ++ machine_words flags target ++ clang_words flags
wanted flags (Msvc clang_cl) target = msvc_words flags target
