-- What is left of a list from a place on.
use Rattle.std.proofs.Common.{◌≡◌, ℕ, zero, suc, ◌<◌, ◌≤◌, List, [], ◌∷◌, length, drop, get_or, Some, slice_get, refl, ap, arith}
use Rattle.std.proofs.lemmas.Option.{slice_get_read}

at_place : {X : Type 0} (xs : List X) (i : ℕ) (x : X) → slice_get xs i ≡ Some x → drop i xs ≡ x ∷ drop (suc i) xs
at_place [] i x at = absurd (cc)
at_place (y ∷ xs) zero x at = let same : y ≡ x = cc in ap (λ z. z ∷ xs) same
at_place (y ∷ xs) (suc i) x at = at_place xs i x at

-- the next one, and those behind it
pub drop_at : {X : Type 0} (xs : List X) (i : ℕ) (x : X) → i < length xs → x ≡ get_or xs i x → drop i xs ≡ x ∷ drop (suc i) xs
drop_at xs i x within is = at_place xs i x (slice_get_read xs (length xs) i x refl within is)

-- none is left
pub past_end : {X : Type 0} (xs : List X) (i : ℕ) → length xs ≤ i → drop i xs ≡ []
past_end [] zero past = refl
past_end [] (suc i) past = refl
past_end (x ∷ xs) zero past = absurd (omega (arith, past))
past_end (x ∷ xs) (suc i) past = past_end xs i (omega (arith, past))
