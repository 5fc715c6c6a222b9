-- A test of what is seen of a list.
use Rattle.std.proofs.Common.{◌≡◌, Bool, ◌||◌, List, [], ◌∷◌, map, refl, ap}
use Rattle.std.specs.List.{list_any}

-- some element seen passes where some element passes by what is seen of it
pub list_any_map : {A B : Type 0} (see : A → B) (test : B → Bool) (xs : List A) → list_any (λ x. test (see x)) xs ≡ list_any test (map see xs)
list_any_map see test [] = refl
list_any_map see test (x ∷ xs) = ap (λ b. test (see x) || b) (list_any_map see test xs)
