-- The target of a build, by its name.
use Rattle.std.specs.Prelude.{ℕ, List, [], Option, unwrap_or, if◌then◌else◌}
use Rattle.cc_env.specs.Env.{EnvSeen}
use Rattle.cc_target.specs.Described.{info_for}
use Rattle.cc_target.specs.Targets.{Info, info_of}
use Rattle.cc_flags.specs.Given.{target_of, is_cargos_target}
use Rattle.cc_flags.specs.declared.settings.BuildConfig.{BuildConfig}

-- the parts of no target
abbrev pub no_info : Info
no_info = record { full_arch = []; arch = []; vendor = []; os = []; env = []; abi = [] }

abbrev pub target_name : BuildConfig → EnvSeen → List ℕ
target_name set env = unwrap_or (target_of set env) []

-- what is known of a target by its name: of the one that Cargo builds for also what Cargo describes
unfoldable pub known_info : BuildConfig → EnvSeen → List ℕ → Option Info
known_info set env name = if is_cargos_target set env then info_for name env.inherited else info_of name

abbrev pub target_info : BuildConfig → EnvSeen → Info
target_info set env = unwrap_or (known_info set env (target_name set env)) no_info
