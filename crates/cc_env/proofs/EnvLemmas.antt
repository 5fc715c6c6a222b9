-- The value of a name in a build's environment.
use Rattle.std.proofs.Common.{◌≡◌, ℕ, List}
use Rattle.std.specs.Option.{option_or}
use Rattle.cc_env.specs.Env.{EnvSeen, overridable}
use Rattle.cc_env.specs.Snapshot.{last_value}
use Rattle.cc_env.proofs.SnapshotLemmas.{last-append}

-- the last explicit value, else the inherited one
pub overridable_is : (env : EnvSeen) (name : List ℕ) → overridable env name ≡ option_or (last_value env.explicit name) (last_value env.inherited name)
unfolding overridable
overridable_is env name = last-append env.inherited env.explicit name
