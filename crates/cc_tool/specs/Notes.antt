-- What a plan notes on the way: the names of the variables that it reads, and what a user is warned of.
use Rattle.std.specs.Prelude.{ℕ, List, [], ◌∷◌, ◌++◌, map}
use Rattle.std.specs.BTreeSet.{insert_key}
use Rattle.std.specs.Cmp.Lexicographic.{slice_cmp}
use Rattle.std.specs.Ordering.{nat_cmp}

pub data Note : Type 0 where
  Name : List ℕ → Note
  Warning : List ℕ → Note

-- names in the order of their bytes, each once, and warnings in the order in which they came
pub record Noted : Type 0 where
  pub names : List (List ℕ)
  pub warnings : List (List ℕ)

abbrev pub no_notes : Noted
no_notes = record { names = []; warnings = [] }

-- one more
abbrev pub add_note : Noted → Note → Noted
add_note noted (Name name) = record { names = insert_key (slice_cmp nat_cmp) noted.names name; warnings = noted.warnings }
add_note noted (Warning text) = record { names = noted.names; warnings = noted.warnings ++ text ∷ [] }

-- the variables of these names are read
abbrev pub named : List (List ℕ) → List Note
named names = map Name names

-- a user is warned of these
abbrev pub warned : List (List ℕ) → List Note
warned texts = map Warning texts
