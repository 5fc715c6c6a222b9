-- The C++ library that a library is linked with, as far as no compiler decides it, and its lines.
use Rattle.std.specs.Prelude.{ℕ, Bool, true, false, not, ◌&&◌, ◌||◌, List, [], ◌∷◌, ◌++◌, Option, Some, None, codes, if◌then◌else◌, ◌+◌}
use Rattle.std.specs.Option.{option_map, option_map_or}
use Rattle.cc_env.specs.Env.{EnvSeen}
use Rattle.cc_env.specs.Names.{is_true_value}
use Rattle.cc_env.specs.Snapshot.{last_value}
use Rattle.cc_flags.specs.DefaultWords.{is_wasm_linux}
use Rattle.cc_flags.specs.Texts.{is, has}
use Rattle.cc_target.specs.Targets.{Info}
use Rattle.cc_flags.specs.Blanks.{nonempty}
use Rattle.cc_flags.specs.Given.{is_disabled, prefixed_value, first_of}
use Rattle.cc_flags.specs.Target.{target_info, target_name}
use Rattle.cc_flags.specs.declared.link_line.LinkLine.{LinkLine}
use Rattle.cc_flags.specs.declared.settings.BuildConfig.{BuildConfig}

-- the value of a variable of the prefixes, where the empty text is no library
unfoldable pub environment_library : BuildConfig → EnvSeen → Option (Option (List ℕ))
environment_library set env = option_map (λ value. nonempty (Some value)) (prefixed_value set env (codes "CXXSTDLIB"))

-- the system of the target has libc++
unfoldable pub has_libcxx : Info → Bool
has_libcxx target =
    is target.os "freebsd" || is target.os "openbsd" || is target.os "wasi" || (is target.os "linux" && is target.env "ohos")

-- that of the target's system, where it has one for all its compilers
unfoldable pub target_library : Info → Option (Option (List ℕ))
target_library target =
    if is target.env "msvc" then Some None
    else (if has_libcxx target then Some (Some (codes "c++"))
    else (if is target.os "android" then Some (Some (codes "c++_shared"))
    else None))

-- the set one, else the environment's, else the target's
unfoldable pub given_library : BuildConfig → EnvSeen → Option (Option (List ℕ))
given_library set env = first_of set.cpp_link_stdlib (first_of (environment_library set env) (target_library (target_info set env)))

-- a compiler may be asked for it: the lines are wanted, the target isn't WebAssembly's, which links its own, and commands may run
unfoldable pub may_ask : BuildConfig → EnvSeen → Bool
may_ask set env = set.cargo_metadata && not (is (target_info set env).arch "wasm32") && not (is_disabled env)

abbrev pub library_by : Bool → List ℕ
library_by is_libcxx = if is_libcxx then codes "c++" else codes "stdc++"

unfoldable pub is_static : BuildConfig → EnvSeen → Bool
is_static set env = set.cpp_link_stdlib_static || option_map_or is_true_value (prefixed_value set env (codes "CXXSTDLIB_STATIC")) false

-- a library behind its kind
abbrev pub linked : Bool → List ℕ → List ℕ → LinkLine
linked once kind library = record { text = codes "cargo:rustc-link-lib=" ++ kind ++ library; once = once }

-- A library whose name has a `=` brings its own kind and modifiers. rustc refuses a library that is given twice where one of them has modifiers, so
-- what may have some is given once.
unfoldable pub stdlib_line : Bool → Bool → List ℕ → LinkLine
stdlib_line is_static is_wasm library =
    if has library "=" then linked true [] library
    else (if not is_static then linked false [] library
    else (if is_wasm then linked false (codes "static=") library
    else linked true (codes "static:-bundle=") library))

abbrev pub stdlib_lines : BuildConfig → EnvSeen → Option (List ℕ) → List LinkLine
stdlib_lines set env None = []
stdlib_lines set env (Some library) = stdlib_line (is_static set env) (is (target_info set env).arch "wasm32") library ∷ []

abbrev pub is_wasm_wasi : Info → Bool
is_wasm_wasi target = is target.arch "wasm32" && is target.os "wasi"

-- a folder in the sysroot that a variable has
abbrev pub folder_in : EnvSeen → List ℕ → List ℕ → Option (List ℕ)
folder_in env variable behind = option_map (λ sysroot. sysroot ++ behind) (last_value env.inherited variable)

unfoldable pub wasm_folder : BuildConfig → EnvSeen → Option (List ℕ)
wasm_folder set env =
    if is_wasm_wasi (target_info set env) then folder_in env (codes "WASI_SYSROOT") (codes "/lib/" ++ target_name set env)
    else (if is_wasm_linux (target_info set env) then folder_in env (codes "WASM_MUSL_SYSROOT") (codes "/lib")
    else None)

abbrev pub wasm_line : List ℕ → LinkLine
wasm_line folder = record { text = codes "cargo:rustc-flags=-L " ++ folder ++ codes " -lstatic=c++ -lstatic=c++abi"; once = false }

abbrev pub wasm_lines : Option (List ℕ) → List LinkLine
wasm_lines None = []
wasm_lines (Some folder) = wasm_line folder ∷ []

-- the lines for a C++ library, and those of WebAssembly
unfoldable pub cpp_lines : BuildConfig → EnvSeen → Option (List ℕ) → List LinkLine
cpp_lines set env library = stdlib_lines set env library ++ wasm_lines (wasm_folder set env)

-- lines for a library of C++ are wanted
abbrev pub links_cpp : BuildConfig → Bool
links_cpp set = set.cargo_metadata && set.cpp
