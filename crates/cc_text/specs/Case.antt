-- Texts with no regard to the case of ASCII letters.
use Rattle.std.specs.Prelude.{ℕ, Bool, List, map, nat_eq}
use Rattle.std.specs.Char.{to_ascii_lowercase}
use Rattle.std.specs.List.{starts_with, ends_with}

-- the text with each capital ASCII letter as its small one
abbrev pub lowered : List ℕ → List ℕ
lowered s = map to_ascii_lowercase s

-- the text begins with the prefix
unfoldable pub starts_ignoring_case : List ℕ → List ℕ → Bool
starts_ignoring_case s prefix = starts_with nat_eq (lowered s) (lowered prefix)

-- the text ends with the suffix
unfoldable pub ends_ignoring_case : List ℕ → List ℕ → Bool
ends_ignoring_case s suffix = ends_with nat_eq (lowered s) (lowered suffix)
