-- A search that stops at the first.
use Rattle.std.proofs.Common.{◌≡◌, ℕ, zero, suc, ◌+◌, ◌<◌, Bool, true, false, cond, Some, None, List, [], ◌∷◌, find, take, length, slice_index_or, refl, sym, ap, ◌∙◌, add-one, arith}

more : {X : Type 0} (p : X → Bool) (xs : List X) (i : ℕ) (x : X) → x ≡ slice_index_or xs i x → find p (take i xs) ≡ None → p x ≡ false → find p (take (suc i) xs) ≡ None
more p [] i x e n f = refl
more p (y ∷ ys) zero x e n f = let g : p y ≡ false = ap p (sym e) ∙ f in rw g refl
more p (y ∷ ys) (suc i) x e n f = both (p y) (λ m. more p ys i x e m f) n
  where
    both : (b : Bool) → (find p (take i ys) ≡ None → find p (take (suc i) ys) ≡ None) → cond b (Some y) (find p (take i ys)) ≡ None → cond b (Some y) (find p (take (suc i) ys)) ≡ None
    both true r n = cc
    both false r n = r n

-- nothing found so far, nor at the next place
pub find_more : {X : Type 0} (p : X → Bool) (xs : List X) (i : ℕ) (x : X) → x ≡ slice_index_or xs i x → find p (take i xs) ≡ None → p x ≡ false → find p (take (i + 1) xs) ≡ None
find_more p xs i x e n f = rw add-one (more p xs i x e n f)

-- nothing found so far, and the next is it
pub find_here : {X : Type 0} (p : X → Bool) (xs : List X) (i : ℕ) (x : X) → i < length xs → x ≡ slice_index_or xs i x → find p (take i xs) ≡ None → p x ≡ true → find p xs ≡ Some x
find_here p [] i x l e n f = absurd (omega arith)
find_here p (y ∷ ys) zero x l e n f = let g : p y ≡ true = ap p (sym e) ∙ f in rw g (ap Some (sym e))
find_here p (y ∷ ys) (suc i) x l e n f = both (p y) (λ m. find_here p ys i x (omega arith) e m f) n
  where
    both : (b : Bool) → (find p (take i ys) ≡ None → find p ys ≡ Some x) → cond b (Some y) (find p (take i ys)) ≡ None → cond b (Some y) (find p ys) ≡ Some x
    both true r n = cc
    both false r n = r n
