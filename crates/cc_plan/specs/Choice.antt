-- The choice of the compiler: the set one, else that of the environment, else the one that the target wants.
use Rattle.std.specs.Prelude.{ℕ, Bool, List, [], ◌∷◌, Option, Some, None, unwrap_or, codes, bytes_eq, if◌then◌else◌}
use Rattle.std.specs.List.{list_any}
use Rattle.cc_env.specs.Env.{EnvSeen, overridable}
use Rattle.cc_host.specs.Question.{Look}
use Rattle.cc_target.specs.Targets.{Info}
use Rattle.cc_text.specs.Words.{when}
use Rattle.cc_tool.specs.Notes.{named}
use Rattle.cc_tool.specs.Plans.{Plan, bind, done, note, or_else}
use Rattle.cc_plan.specs.Android.{android_compiler}
use Rattle.cc_plan.specs.EnvTool.{env_tool}
use Rattle.cc_flags.specs.Wrappers.{in_rustc_wrapper}
use Rattle.cc_flags.specs.Languages.{compiler_variable, traditional_name, clang_name, emscripten_name}
use Rattle.cc_plan.specs.Prefix.{gnu_prefix}
use Rattle.cc_flags.specs.Prefixes.{is_cross}
use Rattle.cc_plan.specs.Search.{which}
use Rattle.cc_flags.specs.Target.{target_name, target_info}
use Rattle.cc_flags.specs.Texts.{is}
use Rattle.cc_flags.specs.declared.choice.Choice.{Choice}
use Rattle.cc_flags.specs.declared.settings.BuildConfig.{BuildConfig}
use Rattle.cc_flags.specs.Compilers.{bare, fixed_compiler, links_by_plugin, prefixed_compiler, wasi_path}

-- a variable is looked up in the environment of the build script, unless a setter gives it
abbrev pub is_set : EnvSeen → List ℕ → Bool
is_set env name = list_any (λ v. bytes_eq v.0 name) env.explicit

abbrev pub unless_set : EnvSeen → List ℕ → List (List ℕ)
unless_set env name = if is_set env name then [] else name ∷ []

-- Clang in a kit for WASI, where that has it
unfoldable pub in_kit : EnvSeen → List ℕ → Option (List ℕ) → Plan (Option (List ℕ))
in_kit env name None = done None
in_kit env name (Some kit) = which env (wasi_path kit name)

unfoldable pub wasi_kit_compiler : EnvSeen → List ℕ → Plan (Option (List ℕ))
wasi_kit_compiler env name =
    bind (note (named (unless_set env (codes "WASI_SDK_PATH"))))
    (λ noted. in_kit env name (overridable env (codes "WASI_SDK_PATH")))

unfoldable pub wasi_compiler : Bool → EnvSeen → List ℕ → Plan (List ℕ)
wasi_compiler cpp env name = bind (wasi_kit_compiler env name) (λ found. done (unwrap_or found (clang_name cpp)))

-- Clang, where it is wanted for the linker's plugin and found
unfoldable pub plugin_compiler : Bool → EnvSeen → Plan (Option (List ℕ))
plugin_compiler cpp env = if links_by_plugin env then which env (clang_name cpp) else done None

-- the compiler of the system
unfoldable pub default_compiler : Bool → EnvSeen → Plan (List ℕ)
default_compiler cpp env = bind (plugin_compiler cpp env) (λ found. done (unwrap_or found (traditional_name cpp)))

-- the prefix of compilers for another target than the host
unfoldable pub cross_prefix : BuildConfig → EnvSeen → Plan (Option (List ℕ))
cross_prefix set env = if is_cross set env then gnu_prefix set env (target_name set env) else done None

-- the compiler behind a prefix, where there is one
unfoldable pub prefixed_or_default : BuildConfig → EnvSeen → Option (List ℕ) → Plan (List ℕ)
prefixed_or_default set env None = default_compiler set.cpp env
prefixed_or_default set env (Some prefix) = done (prefixed_compiler set.cpp (target_info set env) prefix)

unfoldable pub cross_compiler : BuildConfig → EnvSeen → Plan (List ℕ)
cross_compiler set env = bind (cross_prefix set env) (prefixed_or_default set env)

unfoldable pub fixed_or_cross : BuildConfig → EnvSeen → Plan (List ℕ)
fixed_or_cross set env = or_else (cross_compiler set env) (fixed_compiler set.cpp (target_info set env))

-- the compiler that the target wants
unfoldable pub target_compiler : BuildConfig → EnvSeen → Plan (List ℕ)
target_compiler set env =
    if is (target_info set env).os "android" then android_compiler set.cpp env (target_name set env)
    else (if is (target_info set env).os "wasi" then wasi_compiler set.cpp env (target_name set env)
    else fixed_or_cross set env)

-- that compiler, run through that of Rust code where it serves other compilers, too
unfoldable pub target_choice : BuildConfig → EnvSeen → Plan Choice
target_choice set env = bind (target_compiler set env) (λ path. done (in_rustc_wrapper env path []))

-- the compiler where neither settings nor environment name one
unfoldable pub own_choice : BuildConfig → EnvSeen → Plan Choice
own_choice set env =
    if is (target_info set env).os "emscripten" then done (bare (emscripten_name set.cpp))
    else target_choice set env

-- the one that the environment names, else that one
unfoldable pub named_or_own : BuildConfig → EnvSeen → Plan Choice
named_or_own set env = bind (env_tool set env (compiler_variable set.cpp)) (or_else (own_choice set env))

-- for Visual Studio's targets a variable may prefer Clang
abbrev pub preferring : Info → List (List ℕ)
preferring target = when (is target.env "msvc") (codes "CC_PREFER_CLANG_CL_OVER_MSVC" ∷ [])

-- the compiler where the settings name none
unfoldable pub found_choice : BuildConfig → EnvSeen → Plan Choice
found_choice set env = bind (note (named (preferring (target_info set env)))) (λ noted. named_or_own set env)

unfoldable pub chosen : BuildConfig → EnvSeen → Option (List ℕ) → Plan Choice
chosen set env None = found_choice set env
chosen set env (Some path) = done (bare path)

-- the choice
unfoldable pub choice : BuildConfig → EnvSeen → Plan Choice
choice set env = chosen set env set.compiler

abbrev pub choice_of : BuildConfig → EnvSeen → Look → Choice
choice_of set env look = (choice set env).value look
