-- Look-ups by paths that are kept from their ends on.
use Rattle.std.proofs.Common.{◌≡◌, ℕ, List, Option, Ordering, true, false, refl, sym, ◌∙◌, ap, reverse, bytes_eq, if◌then◌else◌}
use Rattle.std.specs.Ordering.{nat_cmp, eq_by_cmp}
use Rattle.std.specs.Cmp.{eq_by_cmp_equiv}
use Rattle.std.specs.Cmp.Lexicographic.{slice_cmp, nat_list_eq_equiv}
use Rattle.std.specs.BTreeMap.{BTreeMap, get_by, is_at, Updates}
use Rattle.std.specs.Global.{Vec}
use Rattle.std.specs.Map.{update, lookup, KeepsOthers}
use Rattle.std.proofs.lemmas.List.{reverse-reverse}
use Rattle.std.proofs.lemmas.Cmp.{nat_list_cmp_total}
use Rattle.std.proofs.lemmas.Map.Text.{is_eq-slice_cmp}
use Rattle.std.proofs.lemmas.Slice.Eq.{bytes_eq-Decides}

abbrev pub items_cmp : Vec ℕ → Vec ℕ → Ordering
items_cmp x y = slice_cmp nat_cmp x.items y.items

-- the value at some bytes
abbrev pub value_at : {X : Type 0} → BTreeMap (Vec ℕ) X → List ℕ → Option X
value_at m bytes = get_by (λ key. slice_cmp nat_cmp bytes key.items) m

-- two tests of bytes that hold of the same ones
same_test : (a b c d : List ℕ) → (a ≡ b → c ≡ d) → (c ≡ d → a ≡ b) → bytes_eq a b ≡ bytes_eq c d
same_test a b c d to from =
    elim (bytes_eq a b) as (λ x. (x ≡ true → a ≡ b) → (a ≡ b → x ≡ true) → x ≡ bytes_eq c d) [
      | true ↦ λ f g. sym ((bytes_eq-Decides c d).1 (to (f refl)))
      | false ↦ λ f g. elim (bytes_eq c d) as (λ y. (y ≡ true → c ≡ d) → false ≡ y) [
        | true ↦ λ h. g (from (h refl))
        | false ↦ λ h. refl
      ] (bytes_eq-Decides c d).0
    ] (bytes_eq-Decides a b).0 (bytes_eq-Decides a b).1

pub reversed_test : (a b : List ℕ) → bytes_eq (reverse a) (reverse b) ≡ bytes_eq a b
reversed_test a b = same_test (reverse a) (reverse b) a b (λ e. sym (reverse-reverse a) ∙ ap reverse e ∙ reverse-reverse b) (ap reverse)

-- what is found at bytes other than those of a test that put a value
others : {X : Type 0} (bs cs : List ℕ) (old new : List (Vec ℕ × X)) → KeepsOthers (eq_by_cmp items_cmp) (is_at (λ key. slice_cmp nat_cmp bs key.items)) old new → bytes_eq bs cs ≡ false → lookup (is_at (λ key. slice_cmp nat_cmp cs key.items)) new ≡ lookup (is_at (λ key. slice_cmp nat_cmp cs key.items)) old
unfolding KeepsOthers
others bs cs old new h differ =
    h _ (λ x y. (eq_by_cmp_equiv nat_list_cmp_total).congr cs x.items y.items)
    (λ key y. is_eq-slice_cmp cs key.items ∙ (nat_list_eq_equiv.symm cs key.items ∙ sym (nat_list_eq_equiv.congr bs key.items cs (sym (is_eq-slice_cmp bs key.items) ∙ y)) ∙ differ))

-- what is found behind a value put at some bytes
items_put : {X : Type 0} (key : Vec ℕ) (m n : BTreeMap (Vec ℕ) X) (w : Option X) → Updates items_cmp m n key w → (bytes : List ℕ) → value_at n bytes ≡ update bytes_eq (value_at m) key.items w bytes
items_put key m n w h bytes =
    elim (bytes_eq key.items bytes) as (λ b. bytes_eq key.items bytes ≡ b → value_at n bytes ≡ (if b then w else value_at m bytes)) [
      | true ↦ λ e. ap (value_at n) (sym ((bytes_eq-Decides key.items bytes).0 e)) ∙ h.1
      | false ↦ λ e. others key.items bytes m.entries n.entries h.3 e
    ] refl

-- what is found behind a value put at a path
pub put_at : {X : Type 0} (key : Vec ℕ) (m n : BTreeMap (Vec ℕ) X) (w : Option X) (path : List ℕ) → key.items ≡ reverse path → Updates items_cmp m n key w → (text : List ℕ) → value_at n (reverse text) ≡ update bytes_eq (λ t. value_at m (reverse t)) path w text
put_at key m n w path is h text =
    items_put key m n w h (reverse text)
    ∙ ap (λ b. if b then w else value_at m (reverse text)) (ap (λ l. bytes_eq l (reverse text)) is ∙ reversed_test path text)
