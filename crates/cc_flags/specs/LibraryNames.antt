-- The names of the variables that link lines are planned by.
use Rattle.std.specs.Prelude.{ℕ, Bool, true, false, not, ◌&&◌, List, [], ◌∷◌, ◌++◌, Option, Some, None, is_some, is_none, codes, if◌then◌else◌}
use Rattle.cc_env.specs.Env.{EnvSeen}
use Rattle.cc_target.specs.Targets.{Info}
use Rattle.cc_text.specs.Words.{when, choose, entry}
use Rattle.cc_flags.specs.DefaultWords.{is_wasm_linux}
use Rattle.cc_flags.specs.StdlibLines.{links_cpp, given_library, is_wasm_wasi}
use Rattle.cc_flags.specs.Target.{target_info}
use Rattle.cc_flags.specs.Texts.{has, is}
use Rattle.cc_flags.specs.Variables.{value_names}
use Rattle.cc_flags.specs.declared.settings.BuildConfig.{BuildConfig}

-- a library of C++ is linked, whichever it is
abbrev pub links_some : Option (Option (List ℕ)) → Bool
links_some None = true
links_some (Some library) = is_some library

-- its name brings its own kind, so nobody asks whether it is a static one
abbrev pub brings_kind : Option (Option (List ℕ)) → Bool
brings_kind (Some (Some library)) = has library "="
brings_kind library = false

-- those by which it is found, where none is set
abbrev pub stdlib_names : BuildConfig → EnvSeen → List (List ℕ)
stdlib_names set env = if is_some set.cpp_link_stdlib then [] else value_names set env (codes "CXXSTDLIB")

-- whether it is a static one is asked for
abbrev pub asks_for_static : BuildConfig → Option (Option (List ℕ)) → Bool
asks_for_static set library = links_some library && (not (brings_kind library) && not set.cpp_link_stdlib_static)

-- those by which it is a static one
abbrev pub static_names : BuildConfig → EnvSeen → Option (Option (List ℕ)) → List (List ℕ)
static_names set env library = when (asks_for_static set library) (value_names set env (codes "CXXSTDLIB_STATIC"))

-- the compiler would be asked for it, if commands may run
abbrev pub would_ask : Option (Option (List ℕ)) → Info → Bool
would_ask library target = is_none library && not (is target.arch "wasm32")

-- whether commands may run, and where that of WebAssembly is
unfoldable pub wasm_library_names : Option (Option (List ℕ)) → Info → List (List ℕ)
wasm_library_names library target = choose (
    entry (would_ask library target) ("CC_FORCE_DISABLE" ∷ [])
    ∷ entry (is_wasm_wasi target) ("WASI_SYSROOT" ∷ [])
    ∷ entry (is_wasm_linux target) ("WASM_MUSL_SYSROOT" ∷ [])
    ∷ [])

unfoldable pub library_names : BuildConfig → EnvSeen → Option (Option (List ℕ)) → List (List ℕ)
library_names set env library =
    stdlib_names set env ++ (static_names set env library ++ wasm_library_names library (target_info set env))

-- those of link lines
unfoldable pub link_names : BuildConfig → EnvSeen → List (List ℕ)
link_names set env = if links_cpp set then library_names set env (given_library set env) else []
