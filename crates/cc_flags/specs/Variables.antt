-- The names of the variables that a plan reads, as far as no question decides them.
use Rattle.std.specs.Prelude.{ℕ, Bool, true, not, ◌&&◌, ◌||◌, List, [], ◌∷◌, ◌++◌, fold, Option, Some, None, is_some, is_none, codes, if◌then◌else◌}
use Rattle.std.specs.BTreeSet.{insert_key}
use Rattle.std.specs.Cmp.Lexicographic.{slice_cmp}
use Rattle.std.specs.Ordering.{nat_cmp}
use Rattle.cc_env.specs.Env.{EnvSeen}
use Rattle.cc_env.specs.Names.{target_names}
use Rattle.cc_env.specs.Snapshot.{last_value}
use Rattle.cc_flags.specs.DefaultWords.{is_wasm_linux, needs_target_word}
use Rattle.cc_flags.specs.Texts.{is}
use Rattle.cc_target.specs.Targets.{Info, is_arm}
use Rattle.cc_text.specs.Families.{is_gnu, is_clang, is_plain_clang, is_visual_studio, is_clang_cl, is_cl, is_gnu_like}
use Rattle.cc_text.specs.Words.{when, choose, entry}
use Rattle.cc_text.specs.declared.family.ToolFamily.{ToolFamily}
use Rattle.cc_flags.specs.AssemblerWords.{is_llvm}
use Rattle.cc_flags.specs.Given.{target_of, host_of, variable_flags, flags_variable, has_no_defaults}
use Rattle.cc_flags.specs.declared.archive_names.ArchiveTool.{ArchiveTool}
use Rattle.cc_flags.specs.declared.archive_names.ArchiveTool.TheVariants.{Archiver, Ranlib}
use Rattle.cc_flags.specs.declared.compiler.Compiler.{Compiler}
use Rattle.cc_flags.specs.declared.variables.Reads.{Reads}
use Rattle.cc_flags.specs.declared.settings.BuildConfig.{BuildConfig}

abbrev pub names_for : List ℕ → Option (List ℕ) → Option (List ℕ) → List (List ℕ)
names_for variable None host = []
names_for variable (Some target) None = []
names_for variable (Some target) (Some host) = target_names variable target host

-- those of a variable of the prefixes. Without a target and a host there is none.
abbrev pub prefixed_names : BuildConfig → EnvSeen → List ℕ → List (List ℕ)
prefixed_names set env variable = names_for variable (target_of set env) (host_of set env)

-- the names up to the first that is set, which is the last that is looked at
abbrev pub looked_at : EnvSeen → List (List ℕ) → List (List ℕ)
looked_at env [] = []
looked_at env (name ∷ names) = name ∷ (if is_some (last_value env.inherited name) then [] else looked_at env names)

-- those by which one value is read
unfoldable pub value_names : BuildConfig → EnvSeen → List ℕ → List (List ℕ)
value_names set env variable = looked_at env (prefixed_names set env variable)

-- the variable that says how flags are quoted is read: there are some, and the settings don't say it
abbrev pub asks_for_quotes : BuildConfig → EnvSeen → List ℕ → Bool
asks_for_quotes set env variable = is_some (variable_flags set env variable) && is_none set.shell_escaped_flags

-- those by which a list of flags is read
unfoldable pub flags_names : BuildConfig → EnvSeen → List ℕ → List (List ℕ)
flags_names set env variable = prefixed_names set env variable ++ when (asks_for_quotes set env variable) (codes "CC_SHELL_ESCAPED_FLAGS" ∷ [])

-- the compiler is given the sysroot of WASI, where that is set
abbrev pub takes_wasi_sysroot : ToolFamily → Info → Bool
takes_wasi_sysroot family target = is_gnu_like family && is target.os "wasi"

-- it is given that of musl for WebAssembly
abbrev pub takes_musl_sysroot : BuildConfig → Info → Compiler → Bool
takes_musl_sysroot set target compiler = needs_target_word compiler.family set.compiler target compiler.choice.path && is_wasm_linux target

-- where the headers of a C library for WebAssembly are, where it is told that
unfoldable pub sysroot_names : BuildConfig → Info → Compiler → List (List ℕ)
sysroot_names set target compiler = choose (
    entry (takes_wasi_sysroot compiler.family target) ("WASI_SYSROOT" ∷ [])
    ∷ entry (takes_musl_sysroot set target compiler) ("WASM_MUSL_SYSROOT" ∷ [])
    ∷ [])

-- Clang, in every form
abbrev pub is_any_clang : ToolFamily → Bool
is_any_clang family = is_clang family || is_clang_cl family

-- that of Zig
abbrev pub is_zig : ToolFamily → Bool
is_zig family = is_clang family && not (is_plain_clang family)

-- GCC or Clang
abbrev pub reads_paths : ToolFamily → Bool
reads_paths family = is_gnu family || is_any_clang family

-- what GCC and Clang read by themselves
unfoldable pub gnu_like_names : ToolFamily → List (List ℕ)
gnu_like_names family = choose (
    entry (reads_paths family)
    ("CPATH" ∷ "C_INCLUDE_PATH" ∷ "CPLUS_INCLUDE_PATH" ∷ "OBJC_INCLUDE_PATH" ∷ "OBJCPLUS_INCLUDE_PATH" ∷ "COMPILER_PATH" ∷ "SOURCE_DATE_EPOCH" ∷ [])
    ∷ entry (is_gnu family) ("GCC_EXEC_PREFIX" ∷ [])
    ∷ entry (is_any_clang family) ("CCC_OVERRIDE_OPTIONS" ∷ "CLANG_NO_DEFAULT_CONFIG" ∷ [])
    ∷ entry (is_zig family) ("ZIG_LIB_DIR" ∷ "ZIG_LIBC" ∷ [])
    ∷ [])

-- Clang for a target of Visual Studio, which it looks for
abbrev pub seeks_visual_studio : ToolFamily → Info → Bool
seeks_visual_studio family target = is_any_clang family && is target.env "msvc"

-- it reads the folders of headers that a prompt of Visual Studio sets
abbrev pub reads_includes : ToolFamily → Info → Bool
reads_includes family target = is_cl family || seeks_visual_studio family target

-- what the Visual Studio compiler and what stands in for it read by themselves
unfoldable pub visual_studio_names : ToolFamily → Info → List (List ℕ)
visual_studio_names family target = choose (
    entry (reads_includes family target) ("INCLUDE" ∷ "EXTERNAL_INCLUDE" ∷ [])
    ∷ entry (seeks_visual_studio family target) ("VCToolsInstallDir" ∷ "VCINSTALLDIR" ∷ [])
    ∷ entry (is_visual_studio family) ("CL" ∷ "_CL_" ∷ [])
    ∷ entry (is_cl family) ("LIBPATH" ∷ [])
    ∷ [])

-- what Emscripten reads by itself
unfoldable pub emscripten_names : Info → List (List ℕ)
emscripten_names target = choose (
    entry (is target.os "emscripten")
    ("EMCC_CFLAGS" ∷ "EMCC_LOCAL_PORTS" ∷ "EM_CONFIG" ∷ "EM_CACHE" ∷ "EM_PORTS" ∷ "EM_LLVM_ROOT" ∷ "EM_CLANG_ADD_VERSION" ∷ "EM_COMPILER_WRAPPER" ∷ [])
    ∷ [])

-- what a compiler of a family reads by itself for a target
unfoldable pub family_names : ToolFamily → Info → List (List ℕ)
family_names family target = gnu_like_names family ++ (visual_studio_names family target ++ emscripten_names target)

-- unless the words of a target are left out
abbrev pub default_sysroots : BuildConfig → EnvSeen → Info → Compiler → List (List ℕ)
default_sysroots set env target compiler = if has_no_defaults set env then [] else sysroot_names set target compiler

-- those by which the words of a compiler are planned
unfoldable pub words_names : BuildConfig → EnvSeen → Info → Compiler → List (List ℕ)
words_names set env target compiler =
    ((when (not set.no_default_flags) (codes "CRATE_CC_NO_DEFAULTS" ∷ []) ++ default_sysroots set env target compiler) ++ flags_names set env (flags_variable set))
    ++ family_names compiler.family target

-- those of Microsoft for x86 take words from a variable too
unfoldable pub option_names : Info → List ℕ → List (List ℕ)
option_names target path = when (not (is_arm target) && not (is_llvm path)) (codes "ML" ∷ [])

-- the variable of its flags
abbrev pub tool_flags : ArchiveTool → List ℕ
tool_flags Archiver = codes "ARFLAGS"
tool_flags Ranlib = codes "RANLIBFLAGS"

-- those of a run itself
unfoldable pub run_names : Reads → List (List ℕ)
run_names reads = when reads.disabled (codes "CC_FORCE_DISABLE" ∷ []) ++ when reads.debug (codes "CC_ENABLE_DEBUG_OUTPUT" ∷ [])

-- texts in the order of their bytes, each once
abbrev pub in_order : List (List ℕ) → List (List ℕ)
in_order names = fold (insert_key (slice_cmp nat_cmp)) [] names

-- such lines are wanted
abbrev pub wants_reruns : BuildConfig → Bool
wants_reruns set = set.cargo_metadata && set.emit_rerun_if_env_changed
