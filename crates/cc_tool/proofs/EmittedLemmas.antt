-- Laws on lists of distinct texts.
use Rattle.std.proofs.Common.{◌≡◌, ℕ, Bool, true, false, not, ◌||◌, if◌then◌else◌, List, [], ◌∷◌, ◌++◌, bytes_eq, refl, sym, ap, ◌∙◌, arith}
use Rattle.std.proofs.lemmas.Grind.{common_steps}
use Rattle.std.proofs.lemmas.Bool.{and_parts, and_from}
use Rattle.std.proofs.lemmas.Slice.Eq.{bytes_eq-Decides}
use Rattle.cc_text.specs.Words.{is_among}
use Rattle.cc_tool.specs.Emitted.{is_distinct}

differs : (x y : List ℕ) → bytes_eq x y ≡ false → bytes_eq y x ≡ false
differs x y e = off (bytes_eq y x) (λ s. let same : bytes_eq x y ≡ true = (bytes_eq-Decides x y).1 (sym ((bytes_eq-Decides y x).0 s)) in absurd (cc))
  where
    off : (b : Bool) → (b ≡ true → ⊥) → b ≡ false
    off true n = absurd (n refl)
    off false n = refl

either_no : (a b : Bool) → (a || b) ≡ false → (a ≡ false) × (b ≡ false)
either_no true b e = absurd (cc)
either_no false b e = (refl, e)

among_last : (texts : List (List ℕ)) (value text : List ℕ) → is_among texts text ≡ false → bytes_eq text value ≡ false → is_among (texts ++ value ∷ []) text ≡ false
among_last texts value text e f = grind (arith, common_steps)

-- a text that isn't there, put last
pub distinct_last : (texts : List (List ℕ)) (value : List ℕ) → is_distinct texts ≡ true → is_among texts value ≡ false → is_distinct (texts ++ value ∷ []) ≡ true
distinct_last [] value d n = refl
distinct_last (text ∷ texts) value d n =
    let p = and_parts (not (is_among texts text)) (is_distinct texts) d in
    let m = either_no (bytes_eq value text) (is_among texts value) n in
    and_from _ _ (ap not (among_last texts value text (inverse (is_among texts text) p.0) (differs value text m.0))) (distinct_last texts value p.1 m.1)
  where
    inverse : (b : Bool) → not b ≡ true → b ≡ false
    inverse true e = absurd (cc)
    inverse false e = refl

-- the same, where there was memory for it
pub distinct_push : (texts : List (List ℕ)) {new : List (List ℕ)} (ok : Bool) (value text : List ℕ) → is_distinct texts ≡ true → is_among texts value ≡ false → new ≡ (if ok then texts ++ text ∷ [] else texts) → text ≡ value → is_distinct new ≡ true
distinct_push texts true value text d n e same = ap is_distinct (e ∙ ap (λ x. texts ++ x ∷ []) same) ∙ distinct_last texts value d n
distinct_push texts false value text d n e same = ap is_distinct e ∙ d
