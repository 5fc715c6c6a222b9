-- A needle in a text. Case counts.
use Rattle.std.specs.Prelude.{ℕ, Bool, ◌||◌, nat_eq, List, [], ◌∷◌}
use Rattle.std.specs.List.{starts_with}

-- the needle stands in the text
unfoldable pub is_within : List ℕ → List ℕ → Bool
is_within needle [] = starts_with nat_eq [] needle
is_within needle (b ∷ text) = starts_with nat_eq (b ∷ text) needle || is_within needle text
