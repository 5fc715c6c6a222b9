-- Equal by the test is equal.
use Rattle.std.proofs.Common.{◌≡◌, ℕ, List, bytes_eq, refl, ap, ap₂}
use Rattle.std.specs.Bool.{Decides}
use Rattle.std.proofs.lemmas.Bool.{and_parts, and_from}
use Rattle.std.proofs.lemmas.Slice.Eq.{bytes_eq-Decides, slice_eq-Decides}
use Rattle.cc_text.specs.Words.{same_words}
use Rattle.cc_text.specs.Vars.{same_var, same_vars}

-- two lists of words
pub same_words-Decides : (xs ys : List (List ℕ)) → Decides (same_words xs ys) (xs ≡ ys)
same_words-Decides xs ys = slice_eq-Decides bytes_eq-Decides xs ys (same_words xs ys) refl

same_var-Decides : (x y : List ℕ × List ℕ) → Decides (same_var x y) (x ≡ y)
same_var-Decides x y = (
  λ h. let both = and_parts (bytes_eq x.0 y.0) (bytes_eq x.1 y.1) h in ap₂ (λ a b. (a, b)) ((bytes_eq-Decides x.0 y.0).0 both.0) ((bytes_eq-Decides x.1 y.1).0 both.1),
  λ e. and_from _ _ ((bytes_eq-Decides x.0 y.0).1 (ap (λ (p : List ℕ × List ℕ). p.0) e)) ((bytes_eq-Decides x.1 y.1).1 (ap (λ (p : List ℕ × List ℕ). p.1) e)),
)

-- two lists of pairs
pub same_vars-Decides : (xs ys : List (List ℕ × List ℕ)) → Decides (same_vars xs ys) (xs ≡ ys)
same_vars-Decides xs ys = slice_eq-Decides same_var-Decides xs ys (same_vars xs ys) refl
