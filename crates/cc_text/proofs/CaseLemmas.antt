-- A prefix, a suffix and a needle, once ASCII letters are lowered.
use Rattle.std.proofs.Common.{◌≡◌, ◌↔◌, ℕ, ◌-◌, ◌<◌, ◌≤◌, List, [], ◌∷◌, ◌++◌, Bool, true, false, IsTrue, take, drop, length, bytes_eq, refl, sym, ap, ◌∙◌, arith, length-append}
use Rattle.std.specs.Bool.{one_answer}
use Rattle.std.specs.Char.{to_ascii_lowercase}
use Rattle.std.specs.Str.Iter.{HasSubslice}
use Rattle.std.proofs.lemmas.List.{length-map, take-map, drop-map, take_all}
use Rattle.std.proofs.lemmas.Slice.Eq.{bytes_eq-Decides, starts_is, ends_is}
use Rattle.std.proofs.lemmas.Bool.{false_from_ne_true}
use Rattle.std.proofs.lemmas.Bool.Decides.{Decides-eqb}
use Rattle.cc_text.specs.Case.{lowered, starts_ignoring_case, ends_ignoring_case}

same : (b : Bool) (part p : List ℕ) → (IsTrue b ↔ (lowered part ≡ lowered p)) → b ≡ bytes_eq (lowered p) (lowered part)
same b part p h = one_answer b (bytes_eq (lowered p) (lowered part)) (λ t. sym (h.0 t), λ e. h.1 (sym e)) (bytes_eq-Decides (lowered p) (lowered part))

-- lowered texts are equal just where the test says so
pub starts_by_front : (b : Bool) (s p front : List ℕ) → front ≡ take (length p) s → (IsTrue b ↔ (lowered front ≡ lowered p)) → b ≡ starts_ignoring_case s p
unfolding starts_ignoring_case
starts_by_front b s p front e h = rw (length-map p to_ascii_lowercase, take-map to_ascii_lowercase (length p) s, ← e) (same b front p h)

pub no_start_past : (s p : List ℕ) → length s < length p → starts_ignoring_case s p ≡ false
unfolding starts_ignoring_case
no_start_past s p l = false_from_ne_true _ (λ t.
    let e = (starts_is Decides-eqb (lowered s) (lowered p) _ refl).0 t in
    omega (arith, simp (length-map, length-append) at (ap length e)))

pub ends_by_back : (b : Bool) (s p back : List ℕ) → back ≡ drop (length s - length p) s → (IsTrue b ↔ (lowered back ≡ lowered p)) → b ≡ ends_ignoring_case s p
unfolding ends_ignoring_case
ends_by_back b s p back e h = rw (length-map p to_ascii_lowercase, length-map s to_ascii_lowercase, drop-map to_ascii_lowercase (length s - length p) s, ← e) (same b back p h)

pub no_end_past : (s p : List ℕ) → length s < length p → ends_ignoring_case s p ≡ false
unfolding ends_ignoring_case
no_end_past s p l = false_from_ne_true _ (λ t.
    let e = (ends_is Decides-eqb (lowered s) (lowered p) _ refl).0 t in
    omega (arith, simp (length-map, length-append) at (ap length e)))

pub contains_here : (s n : List ℕ) → starts_ignoring_case s n ≡ true → HasSubslice (lowered s) (lowered n)
unfolding starts_ignoring_case
contains_here s n t = ([], drop (length (lowered n)) (lowered s), (starts_is Decides-eqb (lowered s) (lowered n) _ refl).0 t)

found_here : (s n rest : List ℕ) → lowered s ≡ lowered n ++ rest → starts_ignoring_case s n ≡ true
unfolding starts_ignoring_case
found_here s n rest e = (starts_is Decides-eqb (lowered s) (lowered n) _ refl).1 rest e

none_in : (n a b : List ℕ) → starts_ignoring_case [] n ≡ false → [] ≡ a ++ (lowered n ++ b) → ⊥
none_in n [] b f e = let t = found_here [] n b e in cc
none_in n (x ∷ a) b f e = cc

pub contains_none : (n : List ℕ) → starts_ignoring_case [] n ≡ false → HasSubslice [] (lowered n) → ⊥
contains_none n f h = none_in n h.0 h.1 f h.2

later : (x : ℕ) (s n a b : List ℕ) → starts_ignoring_case (x ∷ s) n ≡ false → lowered (x ∷ s) ≡ a ++ (lowered n ++ b) → HasSubslice (lowered s) (lowered n)
later x s n [] b f e = let t = found_here (x ∷ s) n b e in absurd cc
later x s n (y ∷ a) b f e = let rest : lowered s ≡ a ++ (lowered n ++ b) = cc in (a, b, rest)

pub contains_later : (x : ℕ) (s n : List ℕ) → starts_ignoring_case (x ∷ s) n ≡ false → HasSubslice (lowered s) (lowered n) ↔ HasSubslice (lowered (x ∷ s)) (lowered n)
contains_later x s n f = (λ h. (to_ascii_lowercase x ∷ h.0, h.1, ap (λ t. to_ascii_lowercase x ∷ t) h.2), λ h. later x s n h.0 h.1 f h.2)

pub contains_empty : (s n : List ℕ) → length s < 1 → starts_ignoring_case s n ≡ false → HasSubslice (lowered s) (lowered n) → ⊥
contains_empty [] n l f h = contains_none n f h
contains_empty (x ∷ s) n l f h = omega arith

pub contains_after : (s after n : List ℕ) → 1 ≤ length s → after ≡ take (length s - 1) (drop 1 s) → starts_ignoring_case s n ≡ false → HasSubslice (lowered after) (lowered n) ↔ HasSubslice (lowered s) (lowered n)
contains_after [] after n l e f = absurd (omega arith)
contains_after (x ∷ s) after n l e f =
    let is : after ≡ s = e ∙ take_all (length (x ∷ s) - 1) s (omega arith) in
    rw is (contains_later x s n f)

-- nothing is left, so the needle is nowhere
pub not_contained : (s rest n needle : List ℕ) → n ≡ needle → (HasSubslice (lowered rest) (lowered n) ↔ HasSubslice (lowered s) (lowered n)) → length rest < 1 → false ≡ starts_ignoring_case rest n → IsTrue false ↔ HasSubslice (lowered s) (lowered needle)
not_contained s rest n needle e k l f = (λ t. absurd cc, λ h. absurd (contains_empty rest n l (sym f) (k.1 (rw e h))))

-- the needle stands in the text just where it stands in the rest, after one byte more
pub still_contained : (s rest after n : List ℕ) → 1 ≤ length rest → after ≡ take (length rest - 1) (drop 1 rest) → false ≡ starts_ignoring_case rest n → (HasSubslice (lowered rest) (lowered n) ↔ HasSubslice (lowered s) (lowered n)) → HasSubslice (lowered after) (lowered n) ↔ HasSubslice (lowered s) (lowered n)
still_contained s rest after n l e f k =
    let a = contains_after rest after n l e (sym f) in
    (λ h. k.0 (a.0 h), λ h. a.1 (k.1 h))

-- the needle begins the rest
pub contained : (s rest n needle : List ℕ) → n ≡ needle → (HasSubslice (lowered rest) (lowered n) ↔ HasSubslice (lowered s) (lowered n)) → true ≡ starts_ignoring_case rest n → IsTrue true ↔ HasSubslice (lowered s) (lowered needle)
contained s rest n needle e k f = (λ t. rw (← e) (k.0 (contains_here rest n (sym f))), λ h. refl)
