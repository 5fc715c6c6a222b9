-- The flags that a build takes from its environment.
use Rattle.std.specs.Prelude.{ℕ, List, [], ◌++◌, map, Option, Some, None, Result, codes, if◌then◌else◌}
use Rattle.cc_env.specs.Env.{EnvSeen}
use Rattle.cc_host.specs.declared.event.Event.{Event}
use Rattle.cc_flags.specs.Given.{target_of, host_of, variable_flags}
use Rattle.cc_flags.specs.Given.{first_of}
use Rattle.cc_flags.specs.Variables.{flags_names, in_order, wants_reruns}
use Rattle.cc_flags.specs.declared.build_flags.BuildFlag.{BuildFlag}
use Rattle.cc_flags.specs.declared.build_flags.BuildFlag.TheVariants.{Always}
use Rattle.cc_flags.specs.declared.settings.BuildConfig.{BuildConfig}
use Rattle.cc_build.specs.declared.error.ErrorKind.TheVariants.{EnvVarNotFound}
use Rattle.cc_build.specs.Error.{ErrorSeen}
use Rattle.cc_build.specs.Build.{BuildSeen}
use Rattle.cc_build.specs.Outcome.{Outcome}
use Rattle.cc_build.specs.Refusal.{unset_error}
use Rattle.cc_build.specs.Told.{line_steps, unless_refused}
use Rattle.cc_build.specs.Way.{Firsts, Repeats}

-- each of these words, to be given always
abbrev pub always : List (List ℕ) → List BuildFlag
always words = map Always words

-- none of the names of a variable is set
abbrev pub absent_error : List ℕ → ErrorSeen
absent_error name =
    record { kind = EnvVarNotFound; subject = name; message = codes "could not find environment variable " ++ name }

-- a value that is wanted, or the error by its variable
abbrev pub wanted_error : List ℕ → Option (List ℕ) → Option ErrorSeen
wanted_error name None = Some (unset_error name)
wanted_error name (Some value) = None

abbrev pub found_error : List ℕ → Option (List (List ℕ)) → Option ErrorSeen
found_error name None = Some (absent_error name)
found_error name (Some words) = None

-- why flags of a variable are refused: the target or the host is set nowhere, or none of the variable's names is set
unfoldable pub flags_error : BuildConfig → EnvSeen → List ℕ → Option ErrorSeen
flags_error set env name =
    first_of (wanted_error (codes "TARGET") (target_of set env))
    (first_of (wanted_error (codes "HOST") (host_of set env))
    (found_error name (variable_flags set env name)))

-- the variables that are read for the flags of one, in the order of their bytes, where their lines are wanted
abbrev pub flags_read : BuildConfig → EnvSeen → List ℕ → List (List ℕ)
flags_read set env name = if wants_reruns set then in_order (flags_names set env name) else []

-- Ok: nothing is refused, and the lines of those variables were printed. Else the error has its cause. Where the flags
-- are refused no line is printed.
abbrev pub FlagsEnd : {T : Type 0} → BuildSeen → List ℕ → Result T ErrorSeen → List Event → Type 0
FlagsEnd b name result part =
    (firsts : Firsts)
    × (Repeats b.config firsts
    × Outcome (flags_error b.config b.env name)
    (unless_refused (flags_error b.config b.env name)
    (line_steps (flags_read b.config b.env name) firsts)) part result)
