-- The environment of a build.
use Rattle.std.specs.Prelude.{ℕ, List, ◌++◌, Option}
use Rattle.cc_env.specs.Snapshot.{last_value}

-- what a build's environment is seen as: the snapshot, and the explicit entries in the order in which they came
pub record EnvSeen : Type 0 where
  pub inherited : List (List ℕ × List ℕ)
  pub explicit : List (List ℕ × List ℕ)

-- the value of a name: the last explicit entry, else the snapshot's
unfoldable pub overridable : EnvSeen → List ℕ → Option (List ℕ)
overridable env name = last_value (env.inherited ++ env.explicit) name
