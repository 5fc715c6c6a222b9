-- A table whose names ascend: where a search by halves ends, and what a look-up finds there.
use Rattle.std.proofs.Common.{◌≡◌, ℕ, zero, suc, ◌<◌, ◌≤◌, List, [], ◌∷◌, true, false, IsTrue, Some, None, length, get_or, bytes_eq, refl, sym, ap, subst, ◌∙◌, ⊎_elim, arith}
use Rattle.std.specs.declared.cmp.Ordering.{Ordering}
use Rattle.std.specs.declared.cmp.Ordering.TheVariants.{Less, Equal, Greater}
use Rattle.std.specs.Ordering.{nat_cmp, is_lt, is_eq, ordering_index}
use Rattle.std.specs.Cmp.Lexicographic.{slice_cmp, texts_ties}
use Rattle.std.specs.List.{position_or_len, slice_get, HoldsAt}
use Rattle.std.specs.List.Sorted.{IsNonDecreasingBy, IsPartitionPoint}
use Rattle.std.specs.Option.{option_map}
use Rattle.std.proofs.lemmas.Cmp.{nat_list_cmp_total}
use Rattle.std.proofs.lemmas.Bool.{and_parts, false_from_ne_true, cases_eq, cases_lt}
use Rattle.std.proofs.lemmas.Slice.Eq.{bytes_eq-Decides}
use Rattle.std.proofs.lemmas.List.Folds.{find_at}
use Rattle.std.proofs.lemmas.List.Sums.{position_or_len_is}
use Rattle.std.proofs.lemmas.Option.{slice_get-get_or, slice_get_past}
use Rattle.cc_text.specs.Vars.{is_named, lookup, names_ascend}

abbrev cmp : List ℕ → List ℕ → Ordering
cmp a b = slice_cmp nat_cmp a b

less_is : (r : Ordering) → is_lt r ≡ true → r ≡ Less
less_is Less h = refl
less_is Equal h = cc
less_is Greater h = cc

equal_is : (r : Ordering) → is_eq r ≡ true → r ≡ Equal
equal_is Less h = cc
equal_is Equal h = refl
equal_is Greater h = cc

same_text : (a b : List ℕ) → cmp a b ≡ Equal → a ≡ b
same_text a b e = (bytes_eq-Decides a b).0 (texts_ties a b ∙ ap is_eq e)

itself : (a : List ℕ) → cmp a a ≡ Equal
itself a = equal_is (cmp a a) (sym (texts_ties a a) ∙ (bytes_eq-Decides a a).1 refl)

first_below : (pair : List ℕ × List ℕ) (pairs : List (List ℕ × List ℕ)) → names_ascend (pair ∷ pairs) ≡ true → (j : ℕ) (d : List ℕ × List ℕ) → j < length pairs → slice_cmp nat_cmp pair.0 (get_or pairs j d).0 ≡ Less
first_below pair [] h j d l = absurd (omega arith)
first_below pair (next ∷ pairs) h zero d l = less_is _ (and_parts (is_lt (cmp pair.0 next.0)) (names_ascend (next ∷ pairs)) h).0
first_below pair (next ∷ pairs) h (suc j) d l =
    let parts = and_parts (is_lt (cmp pair.0 next.0)) (names_ascend (next ∷ pairs)) h in
    nat_list_cmp_total.trans pair.0 next.0 (get_or pairs j d).0 (less_is _ parts.0) (first_below next pairs parts.1 j d (omega arith))

rest_ascends : (pair : List ℕ × List ℕ) (pairs : List (List ℕ × List ℕ)) → names_ascend (pair ∷ pairs) ≡ true → names_ascend pairs ≡ true
rest_ascends pair [] h = refl
rest_ascends pair (next ∷ pairs) h = (and_parts (is_lt (cmp pair.0 next.0)) (names_ascend (next ∷ pairs)) h).1

ascends : (pairs : List (List ℕ × List ℕ)) → names_ascend pairs ≡ true → (i j : ℕ) (d : List ℕ × List ℕ) → i < j → j < length pairs → slice_cmp nat_cmp (get_or pairs i d).0 (get_or pairs j d).0 ≡ Less
ascends [] h i j d l m = absurd (omega arith)
ascends (pair ∷ pairs) h i zero d l m = absurd (omega arith)
ascends (pair ∷ pairs) h zero (suc j) d l m = first_below pair pairs h j d (omega arith)
ascends (pair ∷ pairs) h (suc i) (suc j) d l m = ascends pairs (rest_ascends pair pairs h) i j d (omega arith) (omega arith)

-- what is below a name that is not above the key is below the key
index_below : (a b key : List ℕ) (r : Ordering) → cmp b key ≡ r → cmp a b ≡ Less → ordering_index (cmp a key) ≤ ordering_index r
index_below a b key Less e l = let below : cmp a key ≡ Less = nat_list_cmp_total.trans a b key l e in rw below (omega arith)
index_below a b key Equal e l = let below : cmp a key ≡ Less = subst (λ t. cmp a t ≡ Less) (same_text b key e) l in rw below (omega arith)
index_below a b key Greater e l = at_most_two (cmp a key)
  where
    at_most_two : (r : Ordering) → ordering_index r ≤ 2
    at_most_two Less = omega arith
    at_most_two Equal = omega arith
    at_most_two Greater = omega arith

same_at_most : (a b : ℕ) → a ≡ b → a ≤ b
same_at_most a b e = omega arith

pub names_rise : (pairs : List (List ℕ × List ℕ)) (key : List ℕ) → IsTrue (names_ascend pairs) → IsNonDecreasingBy (λ pair. ordering_index (slice_cmp nat_cmp pair.0 key)) pairs
names_rise pairs key h = λ i j d l m. ⊎_elim
    (λ e. same_at_most _ _ (ap (λ k. ordering_index (cmp (get_or pairs k d).0 key)) e))
    (λ n. index_below (get_or pairs i d).0 (get_or pairs j d).0 key _ refl (ascends pairs h i j d (omega arith) m))
    (cases_eq i j)

-- the name is nowhere
none_found : (pairs : List (List ℕ × List ℕ)) (key : List ℕ) → ((k : ℕ) (d : List ℕ × List ℕ) → k < length pairs → is_named key (get_or pairs k d) ≡ false) → None ≡ lookup pairs key
none_found pairs key h =
    let place : position_or_len (is_named key) pairs ≡ length pairs = position_or_len_is (is_named key) pairs (length pairs) ([], []) (omega arith) (λ k l. h k ([], []) l) (λ l. absurd (omega arith)) in
    sym (ap (option_map (λ (pair : List ℕ × List ℕ). pair.1)) (find_at (is_named key) pairs ∙ ap (slice_get pairs) place ∙ slice_get_past pairs (length pairs) (omega arith)))

not_equal : (a b : List ℕ) (r : Ordering) → cmp a b ≡ r → (r ≡ Equal → ⊥) → bytes_eq a b ≡ false
not_equal a b r e n = false_from_ne_true _ (λ t. n (sym e ∙ ap (λ x. cmp x b) ((bytes_eq-Decides a b).0 t) ∙ itself b))

pub found_at : (pairs : List (List ℕ × List ℕ)) (key : List ℕ) (place : ℕ) (d : List ℕ × List ℕ) → IsTrue (names_ascend pairs) → place < length pairs → HoldsAt (λ pair. slice_cmp nat_cmp pair.0 key ≡ Equal) pairs place → Some (get_or pairs place d).1 ≡ lookup pairs key
found_at pairs key place d h l e =
    let here : (get_or pairs place d).0 ≡ key = same_text _ key (e d) in
    let first : position_or_len (is_named key) pairs ≡ place = position_or_len_is (is_named key) pairs place d (omega arith)
    (λ k m. not_equal (get_or pairs k d).0 key Less (ap (λ x. cmp (get_or pairs k d).0 x) (sym here) ∙ ascends pairs h k place d m l) (λ c. cc))
    (λ m. (bytes_eq-Decides (get_or pairs place d).0 key).1 here) in
    sym (ap (option_map (λ (pair : List ℕ × List ℕ). pair.1)) (find_at (is_named key) pairs ∙ ap (slice_get pairs) first ∙ slice_get-get_or pairs place d l))

pub found_nowhere : (pairs : List (List ℕ × List ℕ)) (key : List ℕ) (place : ℕ) → IsPartitionPoint (λ pair. slice_cmp nat_cmp pair.0 key ≡ Less) (λ pair. slice_cmp nat_cmp pair.0 key ≡ Greater) pairs place → None ≡ lookup pairs key
found_nowhere pairs key place h = none_found pairs key (λ k d l. ⊎_elim
    (λ m. not_equal (get_or pairs k d).0 key Less (h.0 k d (omega arith) m) (λ c. cc))
    (λ m. not_equal (get_or pairs k d).0 key Greater (h.1 k d m l) (λ c. cc))
    (cases_lt k place))
