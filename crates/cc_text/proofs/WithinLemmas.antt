-- A needle in a text, as a test that computes.
use Rattle.std.proofs.Common.{◌≡◌, ◌↔◌, ℕ, Bool, true, false, IsTrue, ◌||◌, List, [], ◌∷◌, ◌++◌, length, drop, nat_eq, refl, ap, sym}
use Rattle.std.specs.List.{starts_with}
use Rattle.std.specs.Str.Iter.{HasSubslice}
use Rattle.std.proofs.lemmas.Slice.Eq.{starts_is}
use Rattle.std.proofs.lemmas.Bool.Decides.{Decides-eqb}
use Rattle.cc_text.specs.Within.{is_within}

or_left : (x y : Bool) → x ≡ true → (x || y) ≡ true
or_left true y h = refl
or_left false y h = cc

or_right : (x y : Bool) → y ≡ true → (x || y) ≡ true
or_right true y h = refl
or_right false y h = h

front : (s n : List ℕ) → starts_with nat_eq s n ≡ true → s ≡ n ++ drop (length n) s
front s n h = (starts_is Decides-eqb s n _ refl).0 h

starts : (s n b : List ℕ) → s ≡ n ++ b → starts_with nat_eq s n ≡ true
starts s n b e = (starts_is Decides-eqb s n _ refl).1 b e

to_subslice : (n s : List ℕ) → is_within n s ≡ true → HasSubslice s n
unfolding is_within
to_subslice n [] h = ([], drop (length n) [], front [] n h)
to_subslice n (c ∷ s) h =
    let cases : (b : Bool) → starts_with nat_eq (c ∷ s) n ≡ b → HasSubslice (c ∷ s) n =
    λ b. elim b as (λ v. starts_with nat_eq (c ∷ s) n ≡ v → HasSubslice (c ∷ s) n) [
      | true ↦ λ e. ([], drop (length n) (c ∷ s), front (c ∷ s) n e)
      | false ↦ λ e. let r = to_subslice n s (rw e at h) in (c ∷ r.0, r.1, ap (λ t. c ∷ t) r.2)
    ] in
    cases (starts_with nat_eq (c ∷ s) n) refl

from_parts : (a n s b : List ℕ) → s ≡ a ++ (n ++ b) → is_within n s ≡ true
unfolding is_within
from_parts [] n [] b e = starts [] n b e
from_parts [] n (c ∷ s) b e = or_left _ _ (starts (c ∷ s) n b e)
from_parts (d ∷ a) n [] b e = cc
from_parts (d ∷ a) n (c ∷ s) b e = or_right _ _ (from_parts a n s b (cc))

same_bool : (x y : Bool) → (x ≡ true → y ≡ true) → (y ≡ true → x ≡ true) → x ≡ y
same_bool true y f g = sym (f refl)
same_bool false true f g = g refl
same_bool false false f g = refl

-- what says whether a needle stands in a text is the test
pub within_from_subslice : (r : Bool) (n s : List ℕ) → IsTrue r ↔ HasSubslice s n → r ≡ is_within n s
within_from_subslice r n s h =
    same_bool r (is_within n s) (λ e. let p = h.0 e in from_parts p.0 n s p.1 p.2) (λ e. h.1 (to_subslice n s e))
