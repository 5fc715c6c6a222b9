-- What of a run is shown.
use Rattle.std.specs.Prelude.{ℕ, List, [], Bool, true, false, not, ◌||◌, unwrap_or, codes, bytes_eq}
use Rattle.std.specs.Option.{option_map_or}
use Rattle.cc_env.specs.Env.{EnvSeen}
use Rattle.cc_env.specs.Snapshot.{last_value}
use Rattle.cc_host.specs.declared.event.OutputKind.{OutputKind}
use Rattle.cc_host.specs.declared.event.OutputKind.TheVariants.{Forward, Discard}
use Rattle.cc_flags.specs.declared.settings.BuildConfig.{BuildConfig}
use Rattle.cc_run.specs.declared.planned.Shows.{Shows}

-- a value that asks for lines for debugging: any does but the empty text, `0` and `false`
unfoldable pub asks_for_debug : List ℕ → Bool
asks_for_debug value = not (bytes_eq value [] || bytes_eq value (codes "0") || bytes_eq value (codes "false"))

-- the variable asks for them
abbrev pub is_debug_wanted : EnvSeen → Bool
is_debug_wanted env = option_map_or asks_for_debug (last_value env.inherited (codes "CC_ENABLE_DEBUG_OUTPUT")) false

-- the settings ask for them, or the variable does where they are silent
abbrev pub is_debug_on : BuildConfig → EnvSeen → Bool
is_debug_on set env = unwrap_or set.cargo_debug (is_debug_wanted env)

-- what becomes of the standard output of the commands
abbrev pub output_kind : Bool → OutputKind
output_kind true = Forward
output_kind false = Discard

-- what of a run the settings show, and the environment where they are silent, on a host that listens or not; and
-- whether a failure stops it
abbrev pub shows_of : BuildConfig → EnvSeen → Bool → Shows
shows_of set env listens = record {
  warnings = set.cargo_warnings;
  debug = is_debug_on set env;
  out = output_kind set.cargo_output;
  listens = listens;
  stop = set.stop_on_failure;
}
