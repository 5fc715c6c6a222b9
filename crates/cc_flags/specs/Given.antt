-- What the settings say and, where they are silent, the variables that Cargo sets for a build script.
use Rattle.std.specs.Prelude.{ℕ, List, [], Bool, true, false, ◌||◌, Option, Some, None, unwrap_or, codes, bytes_eq, if◌then◌else◌}
use Rattle.std.specs.Option.{option_map_or}
use Rattle.cc_env.specs.Env.{EnvSeen}
use Rattle.cc_env.specs.Names.{flags_of, single_of, is_true_value}
use Rattle.cc_env.specs.Snapshot.{last_value}
use Rattle.cc_flags.specs.Blanks.{nonempty}
use Rattle.cc_flags.specs.declared.settings.BuildConfig.{BuildConfig}

-- a value that is set, else that of a variable
abbrev pub or_variable : Option (List ℕ) → EnvSeen → List ℕ → Option (List ℕ)
or_variable (Some value) env name = Some value
or_variable None env name = last_value env.inherited name

abbrev pub out_dir_of : BuildConfig → EnvSeen → Option (List ℕ)
out_dir_of set env = or_variable set.out_dir env (codes "OUT_DIR")

abbrev pub target_of : BuildConfig → EnvSeen → Option (List ℕ)
target_of set env = or_variable set.target env (codes "TARGET")

abbrev pub host_of : BuildConfig → EnvSeen → Option (List ℕ)
host_of set env = or_variable set.host env (codes "HOST")

abbrev pub level_of : BuildConfig → EnvSeen → Option (List ℕ)
level_of set env = or_variable set.opt_level env (codes "OPT_LEVEL")

-- the value equals that of the variable
abbrev pub is_value_of : EnvSeen → List ℕ → List ℕ → Bool
is_value_of env name value = option_map_or (bytes_eq value) (last_value env.inherited name) false

-- the target is the one that Cargo builds for: it isn't set, or equals Cargo's
abbrev pub is_cargos_target : BuildConfig → EnvSeen → Bool
is_cargos_target set env = option_map_or (is_value_of env (codes "TARGET")) set.target true

-- the variable is set, and counts as true
abbrev pub is_true_variable : EnvSeen → List ℕ → Bool
is_true_variable env name = option_map_or is_true_value (last_value env.inherited name) false

-- no command may run
abbrev pub is_disabled : EnvSeen → Bool
is_disabled env = is_true_variable env (codes "CC_FORCE_DISABLE")

-- the words that a target and a level bring are left out
abbrev pub has_no_defaults : BuildConfig → EnvSeen → Bool
has_no_defaults set env = set.no_default_flags || is_true_variable env (codes "CRATE_CC_NO_DEFAULTS")

-- flags of the environment are quoted as a shell quotes words
abbrev pub has_shell_flags : BuildConfig → EnvSeen → Bool
has_shell_flags set env = unwrap_or set.shell_escaped_flags (is_true_variable env (codes "CC_SHELL_ESCAPED_FLAGS"))

-- the variable of the flags of a language
abbrev pub flags_variable : BuildConfig → List ℕ
flags_variable set = if set.cpp then codes "CXXFLAGS" else codes "CFLAGS"

-- the flags of a variable of the prefixes, where one of its names is set
abbrev pub variable_flags : BuildConfig → EnvSeen → List ℕ → Option (List (List ℕ))
variable_flags set env variable =
    flags_of env.inherited variable (unwrap_or (target_of set env) []) (unwrap_or (host_of set env) []) (has_shell_flags set env)

-- the flags that the environment gives the compiler
abbrev pub environment_flags : BuildConfig → EnvSeen → Option (List (List ℕ))
environment_flags set env = variable_flags set env (flags_variable set)

-- the value of a variable of the prefixes. Without a target and a host there is none.
abbrev pub value_for : EnvSeen → List ℕ → Option (List ℕ) → Option (List ℕ) → Option (List ℕ)
value_for env variable None host = None
value_for env variable (Some target) None = None
value_for env variable (Some target) (Some host) = single_of env.inherited variable target host

abbrev pub prefixed_value : BuildConfig → EnvSeen → List ℕ → Option (List ℕ)
prefixed_value set env variable = value_for env variable (target_of set env) (host_of set env)

-- the folder for files that don't last
abbrev pub temp_folder : EnvSeen → List ℕ
temp_folder env = unwrap_or (nonempty (last_value env.inherited (codes "TMPDIR"))) (codes "/tmp")

-- the folder of probe files
unfoldable pub probe_folder : BuildConfig → EnvSeen → List ℕ
probe_folder set env = unwrap_or (nonempty (out_dir_of set env)) (temp_folder env)

-- the one of two refusals that comes first
abbrev pub first_of : {X : Type 0} → Option X → Option X → Option X
first_of None second = second
first_of (Some refusal) second = Some refusal
