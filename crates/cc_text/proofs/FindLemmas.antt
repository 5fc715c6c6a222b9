-- A search of a table, seen by what its rows say.
use Rattle.std.proofs.Common.{◌≡◌, Bool, true, false, cond, List, [], ◌∷◌, Some, map, find, option_map, refl}

-- the first mapped row that passes is the first row whose mapped form passes, mapped
pub find-map : {A B : Type 0} (see : A → B) (test : B → Bool) (xs : List A) → option_map see (find (λ x. test (see x)) xs) ≡ find test (map see xs)
find-map see test [] = refl
find-map see test (x ∷ xs) =
    elim (test (see x)) as (λ b. option_map see (cond b (Some x) (find (λ y. test (see y)) xs)) ≡ cond b (Some (see x)) (find test (map see xs)))
    [ true ↦ refl | false ↦ find-map see test xs ]
