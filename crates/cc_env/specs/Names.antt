-- The variables of a target and a host.
use Rattle.std.specs.Prelude.{ℕ, Bool, ◌==◌, ◌||◌, not, List, [], ◌∷◌, ◌++◌, Option, Some, None, map, flat_map, filter_map, reverse, bytes_eq, codes, if◌then◌else◌}
use Rattle.cc_text.specs.Shell.{shell_words}
use Rattle.cc_text.specs.Pieces.{ascii_words}
use Rattle.cc_env.specs.Snapshot.{last_value}

-- `-` (45) and `.` (46) become `_` (95)
abbrev pub underscore : ℕ → ℕ
underscore c = if c == 45 || c == 46 then 95 else c

-- the text, with each `-` and each `.` as `_`
unfoldable pub underscored : List ℕ → List ℕ
underscored text = map underscore text

-- the name of a variable for the host alone, or for targets other than it
abbrev pub by_role : List ℕ → List ℕ → List ℕ → List ℕ
by_role var target host = (if bytes_eq target host then codes "HOST_" else codes "TARGET_") ++ var

-- the names that a variable has for a target and a host, the one that counts first
unfoldable pub target_names : List ℕ → List ℕ → List ℕ → List (List ℕ)
target_names var target host =
    (var ++ codes "_" ++ target) ∷ (var ++ codes "_" ++ underscored target) ∷ by_role var target host ∷ var ∷ []

-- the values of those names that are set, in order
unfoldable pub set_values : List (List ℕ × List ℕ) → List (List ℕ) → List (List ℕ)
set_values env names = filter_map (last_value env) names

-- the first of some values
abbrev pub first_of : List (List ℕ) → Option (List ℕ)
first_of [] = None
first_of (value ∷ values) = Some value

-- the value of the first name that is set
unfoldable pub single_of : List (List ℕ × List ℕ) → List ℕ → List ℕ → List ℕ → Option (List ℕ)
single_of env var target host = first_of (set_values env (target_names var target host))

-- the words of a value, as a shell reads them or between blanks
abbrev pub flag_words : Bool → List ℕ → List (List ℕ)
flag_words shell value = if shell then shell_words value else ascii_words value

-- the words of some values, the last value's first
abbrev pub flags_in : Bool → List (List ℕ) → Option (List (List ℕ))
flags_in shell [] = None
flags_in shell (value ∷ values) = Some (flat_map (flag_words shell) (reverse (value ∷ values)))

-- the words of all names that are set, from the last name to the first
unfoldable pub flags_of : List (List ℕ × List ℕ) → List ℕ → List ℕ → List ℕ → Bool → Option (List (List ℕ))
flags_of env var target host shell = flags_in shell (set_values env (target_names var target host))

-- the value of a variable that turns something on: any but the empty text, `0`, `no` and `false`
unfoldable pub is_true_value : List ℕ → Bool
is_true_value value = not (bytes_eq value [] || bytes_eq value (codes "0") || bytes_eq value (codes "no") || bytes_eq value (codes "false"))
