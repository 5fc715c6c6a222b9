-- What targets call their compilers, and a tool alone.
use Rattle.std.specs.Prelude.{ℕ, Bool, true, false, ◌||◌, List, [], ◌++◌, Option, Some, None, unwrap_or, codes, if◌then◌else◌}
use Rattle.std.specs.Option.{option_map_or}
use Rattle.std.specs.Path.{path_join}
use Rattle.cc_env.specs.Env.{EnvSeen}
use Rattle.cc_target.specs.Targets.{Info}
use Rattle.cc_flags.specs.DefaultWords.{is_qnx}
use Rattle.cc_flags.specs.Inherited.{inherited_flags}
use Rattle.cc_flags.specs.Languages.{gnu_name, clang_name, vxworks_name, qnx_name}
use Rattle.cc_flags.specs.Texts.{is}
use Rattle.cc_flags.specs.declared.choice.Choice.{Choice}

unfoldable pub is_wasm : Info → Bool
is_wasm target = is target.arch "wasm32" || is target.arch "wasm64"

-- Clang in the kit of WASI
unfoldable pub wasi_path : List ℕ → List ℕ → List ℕ
wasi_path kit name = path_join (path_join kit (codes "bin")) (name ++ codes "-clang")

-- GCC, or Clang on targets of LLVM's own
abbrev pub compiler_behind : Bool → Info → List ℕ
compiler_behind cpp target = if is target.abi "llvm" then clang_name cpp else gnu_name cpp

-- the same behind a prefix
unfoldable pub prefixed_compiler : Bool → Info → List ℕ → List ℕ
prefixed_compiler cpp target prefix = prefix ++ codes "-" ++ compiler_behind cpp target

-- The linker optimises by its plugin, as the flags of Rust code say, whether or not they are inherited.
unfoldable pub links_by_plugin : EnvSeen → Bool
links_by_plugin env = option_map_or (λ flags. unwrap_or flags.linker_plugin_lto false) (inherited_flags true env.inherited) false

-- the compiler of targets that have one name for it
unfoldable pub fixed_compiler : Bool → Info → Option (List ℕ)
fixed_compiler cpp target =
    if is_wasm target then Some (clang_name cpp)
    else (if is target.os "vxworks" then Some (vxworks_name cpp)
    else (if is_qnx target then Some (qnx_name cpp)
    else None))

-- a tool alone
abbrev pub bare : List ℕ → Choice
bare path = record { path = path; wrapper = None; words = [] }
