-- Members that write one file. A file is a path, and two paths name one file where they have the same components.
use Rattle.std.specs.Prelude.{◌≡◌, ◌⊎◌, ◌<◌, ◌≤◌, ℕ, List, [], ◌∷◌, ◌++◌, length}
use Rattle.std.specs.Prelude.{Option, Some, None, MatchOption, nat_lt, if◌then◌else◌}
use Rattle.std.specs.List.{Contains, flat_map, slice_index_or}
use Rattle.std.specs.Path.{path_components}
use Rattle.cc_text.specs.Places.{place_at}
use Rattle.cc_text.specs.declared.places.PathPlaces.{PathPlaces}

-- a path is that of one of these files
abbrev pub Writes : List (List ℕ) → List ℕ → Type 0
Writes files path = (file : List ℕ) × (Contains files file × (path_components file ≡ path_components path))

-- one file is among these and among those
abbrev pub Share : List (List ℕ) → List (List ℕ) → Type 0
Share files others = (file : List ℕ) × (Contains files file × Writes others file)

-- the files of the member at a place
abbrev pub files_at : List (List (List ℕ)) → ℕ → List (List ℕ)
files_at members place = slice_index_or members place []

-- the members at two places, in this order, write one file
pub record Clash (members : List (List (List ℕ))) (first second : ℕ) : Type 0 where
  pub ordered : first < second
  pub within : second < length members
  pub shared : Share (files_at members first) (files_at members second)

-- no two members write one file
abbrev pub NoClash : List (List (List ℕ)) → Type 0
NoClash members = (first second : ℕ) → Clash members first second → ⊥

-- the first pair comes before the second: by its first place, and then by its second
abbrev pub ComesBefore : ℕ × ℕ → ℕ × ℕ → Type 0
ComesBefore a b = (a.0 < b.0) ⊎ ((a.0 ≡ b.0) × (a.1 < b.1))

-- these two write one file, and no pair before them does
pub record IsFirstClash (members : List (List (List ℕ))) (pair : ℕ × ℕ) : Type 0 where
  pub clash : Clash members pair.0 pair.1
  pub first : (a b : ℕ) → ComesBefore (a, b) pair → Clash members a b → ⊥

-- ---- how one is found

-- a path's key: a slash behind each of its components
abbrev pub key_of : List (List ℕ) → List ℕ
key_of = flat_map (λ component. component ++ 47 ∷ [])

-- the member writes a file with the key, which comes before that file of the member at that place
abbrev pub Owns : List (List (List ℕ)) → ℕ → ℕ → ℕ → List ℕ → Type 0
Owns members place file owner key =
    (k : ℕ) × (k < length (files_at members owner)) × ComesBefore (owner, k) (place, file)
    × (key_of (path_components (slice_index_or (files_at members owner) k [])) ≡ key)

-- the first pair, where an earlier member and the one at a place write one file
abbrev pub first_of_two : Option (ℕ × ℕ) → ℕ → ℕ → ℕ × ℕ
first_of_two None earlier place = (earlier, place)
first_of_two (Some first) earlier place = if nat_lt earlier first.0 then (earlier, place) else first

-- the same, where the member at a place writes a file too, whose last owner so far is given
abbrev pub first_with : Option (ℕ × ℕ) → Option ℕ → ℕ → Option (ℕ × ℕ)
first_with first None place = first
first_with first (Some owner) place = if nat_lt owner place then Some (first_of_two first owner place) else first

-- two members, in this order, own one key
abbrev pub OwnBoth : (ℕ → List ℕ → Type 0) → ℕ → ℕ → Type 0
OwnBoth Own a b = (key : List ℕ) × (a < b) × Own a key × Own b key

-- these two own one key, and no pair before them does
pub record IsFirstOfOwners (Own : ℕ → List ℕ → Type 0) (pair : ℕ × ℕ) : Type 0 where
  pub both : OwnBoth Own pair.0 pair.1
  pub first : (a b : ℕ) → ComesBefore (a, b) pair → OwnBoth Own a b → ⊥

-- each key is at the last of its owners, none of which is behind the place, and this is the first pair of owners
pub record IsNoted (Own : ℕ → List ℕ → Type 0) (place : ℕ) (at : PathPlaces)
    (pair : Option (ℕ × ℕ)) : Type 0 where
  pub up_to : (owner : ℕ) (key : List ℕ) → Own owner key → owner ≤ place
  pub owned : (owner : ℕ) (key : List ℕ) → place_at at key ≡ Some owner → Own owner key
  pub last : (owner : ℕ) (key : List ℕ) → Own owner key
      → (other : ℕ) × (owner ≤ other) × (place_at at key ≡ Some other)
  pub first : MatchOption pair ((a b : ℕ) → OwnBoth Own a b → ⊥) (IsFirstOfOwners Own)
