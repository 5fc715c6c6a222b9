-- Snapshots of an environment: lists of names and values.
use Rattle.std.specs.Prelude.{ℕ, List, [], ◌∷◌, ◌++◌, Option, map, filter, reverse, not, unwrap_or, length, codes}
use Rattle.std.specs.Fmt.{decimal}
use Rattle.cc_text.specs.Vars.{is_named, lookup}

-- the last value given of a name
unfoldable pub last_value : List (List ℕ × List ℕ) → List ℕ → Option (List ℕ)
last_value vars name = lookup (reverse vars) name

-- the first pair of each name, in order
unfoldable pub first_pairs : List (List ℕ × List ℕ) → List (List ℕ × List ℕ)
first_pairs [] = []
first_pairs (pair ∷ pairs) = pair ∷ filter (λ later. not (is_named pair.0 later)) (first_pairs pairs)

-- a pair, with the last value given of its name
abbrev pub with_last_value : List (List ℕ × List ℕ) → List ℕ × List ℕ → List ℕ × List ℕ
with_last_value vars pair = (pair.0, unwrap_or (last_value vars pair.0) pair.1)

-- each name once, at the place of its first pair, with its last value
unfoldable pub snapshot_of : List (List ℕ × List ℕ) → List (List ℕ × List ℕ)
snapshot_of vars = map (with_last_value vars) (first_pairs vars)

-- the variables of a child: what is inherited, and then the explicit entries
unfoldable pub child_of : List (List ℕ × List ℕ) → List (List ℕ × List ℕ) → List (List ℕ × List ℕ)
child_of inherited explicit = snapshot_of (inherited ++ explicit)

-- how a snapshot is shown to a programmer
abbrev pub debug_text : List (List ℕ × List ℕ) → List ℕ
debug_text vars = codes "EnvSnapshot(<" ++ decimal (length vars) ++ codes " variables>)"
