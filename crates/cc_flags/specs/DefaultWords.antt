-- The words that a target and an optimisation level bring: a definition a group.
use Rattle.std.specs.Prelude.{ℕ, Bool, true, false, not, ◌&&◌, ◌||◌, ◌==◌, List, [], ◌∷◌, ◌++◌, Option, Some, None, unwrap_or, is_none, map, codes, if◌then◌else◌}
use Rattle.std.specs.List.{list_any, slice_split}
use Rattle.std.specs.Option.{option_to_list}
use Rattle.cc_env.specs.Snapshot.{last_value}
use Rattle.cc_text.specs.Words.{when, choose, entry}
use Rattle.cc_text.specs.declared.family.ToolFamily.{ToolFamily}
use Rattle.cc_target.specs.Targets.{Info}
use Rattle.cc_text.specs.Families.{is_gnu, is_clang, is_gnu_like, is_cl}
use Rattle.cc_flags.specs.CompilerNames.{has_windows_target, has_android_target}
use Rattle.cc_flags.specs.Texts.{is, has, word}

-- the value of a variable, or nothing
unfoldable pub value_or_empty : List (List ℕ × List ℕ) → List ℕ → List ℕ
value_or_empty env name = unwrap_or (last_value env name) []

-- GCC spells the level `z` as `s`
abbrev pub level_text : ToolFamily → List ℕ → List ℕ
level_text family level = if is_gnu family && is level "z" then codes "s" else level

-- the level, and each function and datum in a section of its own
unfoldable pub optimisation_words : ToolFamily → Info → List ℕ → List (List ℕ)
optimisation_words family target level =
    (codes "-O" ++ level_text family level) ∷ []
    ++ when (is_clang family && is target.os "android") (word "-DANDROID")
    ++ word "-ffunction-sections" ++ word "-fdata-sections"

-- the target runs code wherever it is loaded
unfoldable pub is_position_independent : Info → Bool
is_position_independent target =
    not (is target.os "windows" || is target.os "none" || is target.os "uefi" || is target.os "vita" || is target.arch "wasm32" || is target.arch "wasm64")

-- the target has tables of procedures for calls into shared libraries
abbrev pub has_procedure_tables : Info → Bool
has_procedure_tables target = is target.os "linux" || is target.os "android"

unfoldable pub position_independence_words : Info → Option Bool → Option Bool → List (List ℕ)
position_independence_words target pic use_plt = when (unwrap_or pic (is_position_independent target)) (
    word "-fPIC"
    ++ when (has_procedure_tables target && not (unwrap_or use_plt true)) (word "-fno-plt"))

-- where the headers and libraries of the system are
unfoldable pub sysroot_words : Option (List ℕ) → List (List ℕ)
sysroot_words None = []
sysroot_words (Some sysroot) = (codes "--sysroot=" ++ sysroot) ∷ []

-- threads, where the target's name has them
unfoldable pub thread_words : List ℕ → List (List ℕ)
thread_words name = when (has name "threads") (word "-pthread")

-- the sysroot where it is set, and threads where the target's name has them
unfoldable pub wasi_words : Info → List ℕ → Option (List ℕ) → List (List ℕ)
wasi_words target name sysroot = when (is target.os "wasi") (
    sysroot_words sysroot ++ thread_words name)

-- the variant of QNX's compiler for a full architecture
unfoldable pub qnx_variant : List ℕ → Option (List ℕ)
qnx_variant full_arch =
    if is full_arch "x86" || is full_arch "i586" then Some (codes "-Vgcc_ntox86_cxx")
    else (if is full_arch "aarch64" then Some (codes "-Vgcc_ntoaarch64le_cxx")
    else (if is full_arch "x86_64" then Some (codes "-Vgcc_ntox86_64_cxx")
    else None))

unfoldable pub is_qnx : Info → Bool
is_qnx target = is target.os "nto" || is target.os "qnx"

unfoldable pub qnx_words : Info → List (List ℕ)
qnx_words target = when (is_qnx target) (option_to_list (qnx_variant target.full_arch))

-- QNX on an architecture for which its compiler has no variant
unfoldable pub lacks_qnx_variant : ToolFamily → Info → Bool
lacks_qnx_variant family target = is_gnu_like family && is_qnx target && is_none (qnx_variant target.full_arch)

-- the width of addresses
unfoldable pub width_words : ToolFamily → Info → List (List ℕ)
width_words family target = when (is_gnu_like family) (
    if is target.arch "x86" then word "-m32"
    else (if is target.abi "x32" then word "-mx32"
    else when (is target.arch "x86_64" || is target.arch "powerpc64") (word "-m64")))

-- Clang is told its target, unless its name does that
unfoldable pub needs_target_word : ToolFamily → Option (List ℕ) → Info → List ℕ → Bool
needs_target_word family compiler target program =
    is_clang family && not (has_windows_target compiler target program) && not (has_android_target target program)

-- the C++ library of FreeBSD, unless another is set
unfoldable pub freebsd_words : Info → Bool → Option (List ℕ) → List (List ℕ)
freebsd_words target cpp set_stdlib = when (is target.os "freebsd" && cpp && is_none set_stdlib) (word "-stdlib=libc++")

-- the one kind of WebAssembly that has threads
unfoldable pub is_wasm_linux : Info → Bool
is_wasm_linux target = is target.arch "wasm32" && is target.os "linux"

-- what its C library and its threads want
unfoldable pub wasm_feature_words : List (List ℕ)
wasm_feature_words = map codes (
    "-matomics" ∷ "-mbulk-memory" ∷ "-mmutable-globals" ∷ "-msign-ext" ∷ "-mexception-handling" ∷ "-fwasm-exceptions" ∷ "-fdeclspec" ∷ [])

unfoldable pub wasm_linux_words : Option (List ℕ) → List (List ℕ)
wasm_linux_words sysroot = wasm_feature_words ++ sysroot_words sysroot ++ word "-pthread"

-- the target by LLVM's name
unfoldable pub target_words : List ℕ → List (List ℕ)
target_words llvm = (codes "--target=" ++ llvm) ∷ []

-- the target as Clang takes it, with what its C library wants
unfoldable pub clang_target_words : Info → List ℕ → Bool → Option (List ℕ) → Option (List ℕ) → List (List ℕ)
clang_target_words target llvm cpp set_stdlib musl_sysroot =
    freebsd_words target cpp set_stdlib
    ++ when (is_wasm_linux target) (wasm_linux_words musl_sysroot)
    ++ target_words llvm

-- linking that the target or the settings want
unfoldable pub linkage_words : Info → List ℕ → Option Bool → Option Bool → List (List ℕ)
linkage_words target name static_flag shared_flag = choose (
    entry (is name "wasm32v1-none") ("-mcpu=mvp" ∷ "-mmutable-globals" ∷ [])
    ∷ entry (is target.os "illumos") ("-D_REENTRANT" ∷ [])
    ∷ entry (unwrap_or static_flag false) ("-static" ∷ [])
    ∷ entry (unwrap_or shared_flag false) ("-shared" ∷ [])
    ∷ [])

-- the C++ library that is set, by its name
abbrev pub stdlib_words : Option (List ℕ) → List (List ℕ)
stdlib_words None = []
stdlib_words (Some stdlib) = (codes "-stdlib=lib" ++ stdlib) ∷ []

unfoldable pub standard_library_words : ToolFamily → Bool → Option (List ℕ) → List (List ℕ)
standard_library_words family cpp set_stdlib = when (is_gnu_like family && cpp) (stdlib_words set_stdlib)

-- one of the names between commas
unfoldable pub has_address_sanitizer : List ℕ → Bool
has_address_sanitizer sanitizers = list_any (λ name. is name "address") (slice_split (λ b. b == 44) sanitizers)

unfoldable pub is_x86_64_glibc : Info → Bool
is_x86_64_glibc target = is target.arch "x86_64" && is target.os "linux" && is target.env "gnu" && is target.abi ""

unfoldable pub is_x86_64_visual_studio : Info → Bool
is_x86_64_visual_studio target = is target.arch "x86_64" && is target.os "windows" && is target.env "msvc" && is target.abi ""

-- the targets on which the sanitizer of the Rust code is given to the compiler
abbrev pub is_sanitized : ToolFamily → Info → Bool
is_sanitized family target = (is_gnu_like family && is_x86_64_glibc target) || (is_cl family && is_x86_64_visual_studio target)

-- Cargo's target has the address sanitizer, and the compiler is given it
unfoldable pub wants_sanitizer : ToolFamily → Info → Bool → List (List ℕ × List ℕ) → Bool
wants_sanitizer family target is_cargos_target env = is_cargos_target && has_address_sanitizer (value_or_empty env (codes "CARGO_CFG_SANITIZE")) && is_sanitized family target

unfoldable pub sanitizer_words : ToolFamily → Info → Bool → List (List ℕ × List ℕ) → List (List ℕ)
sanitizer_words family target is_cargos_target env = when (wants_sanitizer family target is_cargos_target env) (word "-fsanitize=address")
