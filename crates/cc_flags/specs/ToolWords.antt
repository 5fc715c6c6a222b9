-- The words of a tool: those that a target and a level bring, unless they are left out, and those of the settings.
use Rattle.std.specs.Prelude.{ℕ, Bool, not, ◌&&◌, List, [], ◌∷◌, ◌++◌, Option, unwrap_or, is_some, map, codes, if◌then◌else◌}
use Rattle.cc_env.specs.Snapshot.{last_value}
use Rattle.cc_text.specs.Words.{when, is_among}
use Rattle.cc_target.specs.Targets.{llvm_of}
use Rattle.cc_flags.specs.Compilation.{CompilationSeen}
use Rattle.cc_flags.specs.Given.{level_of, or_variable, is_cargos_target, has_no_defaults, environment_flags}
use Rattle.cc_flags.specs.Target.{target_name}
use Rattle.cc_flags.specs.DefaultWords.{optimisation_words, position_independence_words, wasi_words, qnx_words, width_words, needs_target_word, clang_target_words, linkage_words, standard_library_words, sanitizer_words, value_or_empty}
use Rattle.cc_text.specs.Families.{is_gnu, is_gnu_like, is_visual_studio}
use Rattle.cc_flags.specs.GnuWords.{gnu_words, processor_words, bare_and_arm_words, riscv_words}
use Rattle.cc_flags.specs.SettingWords.{standard_words, include_words, error_words, warning_words, extra_warning_words, flag_words, flag_asks, definition_words, environment_words}
use Rattle.cc_flags.specs.DebugWords.{debug_words, frame_pointer_words, keeps_frame_pointers, leaf_word}
use Rattle.cc_flags.specs.Inherited.{inherited_cpu, inherited_words, taken_words}
use Rattle.cc_flags.specs.declared.maps.Maps.{Maps}
use Rattle.cc_flags.specs.MapWords.{cargo_maps, taken_over, set_maps, taken_maps, map_asks, pairs_words, trim_pairs, remap_pair}
use Rattle.cc_flags.specs.Texts.{has}
use Rattle.cc_flags.specs.VisualStudioWords.{visual_studio_words, visual_studio_target_words}

-- the optimisation level, empty where it is set nowhere
abbrev pub level_name : CompilationSeen → List ℕ
level_name c = unwrap_or (level_of c.set c.env) []

-- Cargo's target wants its C library linked statically
unfoldable pub has_static_crt : CompilationSeen → Bool
has_static_crt c =
    is_cargos_target c.set c.env && has (value_or_empty c.env.inherited (codes "CARGO_CFG_TARGET_FEATURE")) "crt-static"

-- the name of the target, empty where it is set nowhere
abbrev pub name_of : CompilationSeen → List ℕ
name_of c = target_name c.set c.env

-- the name that LLVM has for the target, else its own
abbrev pub llvm_name : CompilationSeen → List ℕ
llvm_name c = unwrap_or (llvm_of (name_of c)) (name_of c)

-- what GCC and Clang take
unfoldable pub gnu_like_words : CompilationSeen → List (List ℕ)
gnu_like_words c = when (is_gnu_like c.compiler.family) (
    optimisation_words c.compiler.family c.target (level_name c)
    ++ position_independence_words c.target c.set.pic c.set.use_plt
    ++ wasi_words c.target (name_of c) (last_value c.env.inherited (codes "WASI_SYSROOT"))
    ++ qnx_words c.target)

-- the compiler is Clang, and the target is named to it
abbrev pub names_target : CompilationSeen → Bool
names_target c = needs_target_word c.compiler.family c.set.compiler c.target c.compiler.choice.path

-- the sysroot of musl for WebAssembly, where it is set
abbrev pub musl_sysroot : CompilationSeen → Option (List ℕ)
musl_sysroot c = last_value c.env.inherited (codes "WASM_MUSL_SYSROOT")

-- what Clang takes, where it is told its target
unfoldable pub clang_words : CompilationSeen → List (List ℕ)
clang_words c =
    when (names_target c) (clang_target_words c.target (llvm_name c) c.set.cpp c.set.cpp_set_stdlib (musl_sysroot c))

-- the words for the processor, which the flags of Rust code may name
abbrev pub wanted_processor : CompilationSeen → List (List ℕ)
wanted_processor c = processor_words c.target (inherited_cpu c.set.inherit_rustflags c.env.inherited)

-- what GCC alone takes
unfoldable pub gcc_words : CompilationSeen → List (List ℕ)
gcc_words c = when (is_gnu c.compiler.family) (
    gnu_words c.target c.set.static_flag (has_static_crt c)
    ++ wanted_processor c
    ++ bare_and_arm_words c.target
    ++ riscv_words c.target)

-- how much debug information is wanted: as it is set, else as Cargo says
abbrev pub debug_of : CompilationSeen → Option (List ℕ)
debug_of c = or_variable c.set.debug c.env (codes "DEBUG")

-- the word for leaves is among the supported ones
abbrev pub takes_leaf : List (List ℕ) → Bool
takes_leaf supported = is_among supported (codes "-mno-omit-leaf-frame-pointer")

-- debug information and frame pointers
unfoldable pub debugging_words : CompilationSeen → List (List ℕ) → List (List ℕ)
debugging_words c supported =
    debug_words c.compiler.family c.target (debug_of c)
    ++ frame_pointer_words c.compiler.family c.set.force_frame_pointer (debug_of c) (takes_leaf supported)

-- the groups of the target and the level, in order
unfoldable pub default_words : CompilationSeen → List (List ℕ) → List (List ℕ)
default_words c supported =
    visual_studio_words c.compiler.family c.set.static_crt (has_static_crt c) (level_name c)
    ++ gnu_like_words c
    ++ debugging_words c supported
    ++ width_words c.compiler.family c.target
    ++ clang_words c
    ++ visual_studio_target_words c.compiler.family c.target (llvm_name c)
    ++ gcc_words c
    ++ linkage_words c.target (name_of c) c.set.static_flag c.set.shared_flag
    ++ standard_library_words c.compiler.family c.set.cpp c.set.cpp_set_stdlib
    ++ sanitizer_words c.compiler.family c.target (is_cargos_target c.set c.env) c.env.inherited

-- which paths Cargo wants told as others, and which the settings
abbrev pub trimmed : CompilationSeen → Maps
trimmed c = taken_over c.set.inherit_trim_paths c.compiler.family (cargo_maps c.env.inherited)

abbrev pub remapped : CompilationSeen → Maps
remapped c = set_maps c.compiler.family c.set.remap_source_paths

-- what Cargo wants told as others, as far as the compiler takes it
unfoldable pub trim_words : CompilationSeen → List (List ℕ) → List (List ℕ)
trim_words c supported =
    pairs_words c.compiler.family (taken_maps c.compiler.family supported (trimmed c))
    (trim_pairs (value_or_empty c.env.inherited (codes "CARGO_TRIM_PATHS_REMAP")))

-- what the settings want told as others
unfoldable pub remap_words : CompilationSeen → List (List ℕ) → List (List ℕ)
remap_words c supported =
    pairs_words c.compiler.family (taken_maps c.compiler.family supported (remapped c))
    (map remap_pair c.set.remap_source_paths)

-- what the flags of Rust code that Cargo hands down want
abbrev pub rust_words : CompilationSeen → List (List ℕ)
rust_words c = inherited_words c.set.inherit_rustflags c.env.inherited c.compiler.family c.target

-- what is handed down
unfoldable pub handed_words : CompilationSeen → List (List ℕ) → List (List ℕ)
handed_words c supported =
    taken_words supported (rust_words c) ++ trim_words c supported ++ remap_words c supported

-- the groups of the settings, in order, where the environment has these flags
abbrev pub set_words : CompilationSeen → List (List ℕ) → Option (List (List ℕ)) → List (List ℕ)
set_words c supported environment =
    standard_words c.compiler.family c.set.std
    ++ include_words c.set.includes
    ++ error_words c.compiler.family c.set.warnings_into_errors
    ++ warning_words c.compiler.family c.set.warnings environment
    ++ extra_warning_words c.compiler.family c.set.extra_warnings environment
    ++ handed_words c supported
    ++ flag_words c.compiler.family supported c.set.flags
    ++ definition_words c.set.definitions
    ++ environment_words c.compiler.family environment

unfoldable pub setting_words : CompilationSeen → List (List ℕ) → List (List ℕ)
setting_words c supported = set_words c supported (environment_flags c.set c.env)

-- the words of the target and the level, unless they are left out
unfoldable pub wanted_defaults : CompilationSeen → List (List ℕ) → List (List ℕ)
wanted_defaults c supported = if has_no_defaults c.set c.env then [] else default_words c supported

-- the words of a tool, where these are supported of those that a compiler is asked about
unfoldable pub tool_words : CompilationSeen → List (List ℕ) → List (List ℕ)
tool_words c supported = wanted_defaults c supported ++ setting_words c supported

-- frame pointers are kept
abbrev pub keeps_frames : CompilationSeen → Bool
keeps_frames c = keeps_frame_pointers c.compiler.family c.set.force_frame_pointer (debug_of c)

-- the word for leaves, where frame pointers are kept
abbrev pub leaf_ask : CompilationSeen → List (List ℕ)
leaf_ask c = when (not (has_no_defaults c.set c.env) && keeps_frames c) leaf_word

-- the words that a compiler is asked about, in order
unfoldable pub asked_words : CompilationSeen → List (List ℕ)
asked_words c =
    leaf_ask c
    ++ rust_words c
    ++ map_asks c.compiler.family (trimmed c)
    ++ map_asks c.compiler.family (remapped c)
    ++ flag_asks c.compiler.family c.set.flags

-- what a user is warned of: a C++ library is set, and the compiler can't be told
unfoldable pub tool_warnings : CompilationSeen → List (List ℕ)
tool_warnings c =
    when (not (has_no_defaults c.set c.env) && is_visual_studio c.compiler.family && c.set.cpp && is_some c.set.cpp_set_stdlib)
    (codes "cpp_set_stdlib is ignored by this compiler" ∷ [])
