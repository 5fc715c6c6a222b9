-- Cycles that are turned, so that their least place stands first.
use Rattle.std.proofs.Common.{◌≡◌, inl, inr, ℕ, suc, zero, ◌+◌, ◌-◌, ◌<◌, ◌≤◌, List, [], ◌∷◌, ◌++◌, length, get_or, take, drop, Bool, true, false, not, ◌||◌, eqb, leb, refl, sym, ◌∙◌, ap, subst, arith, append_assoc, append-nil, eq-eqb, ne_eqb, length-drop, take_all, drop-cons, take-append-drop}
use Rattle.std.proofs.lemmas.Bool.{and_parts, and_from, or_parts, cases_Bool, not-true, not_from_false, eqb-true, eqb-false, le-leb, leb-true}
use Rattle.std.proofs.lemmas.List.Folds.{list_any-append, list_all-append, list_all_more}
use Rattle.cc_graph.specs.Graph.{Graph, needs_of, among, are_apart, leads, is_ring, is_least, begins_least, IsCycle}
use Rattle.cc_graph.specs.Walk.{IsTurned}
use Rattle.cc_graph.proofs.GraphLemmas.{not_among}

-- what holds of a list however it is turned, where it holds of it turned by one
turned : (P : List ℕ → Type 0) → ((p : ℕ) (ps : List ℕ) → P (p ∷ ps) → P (ps ++ p ∷ [])) → (a b : List ℕ) → P (a ++ b) → P (b ++ a)
turned P step [] b h = subst P (sym (append-nil b)) h
turned P step (p ∷ a) b h =
    let once : P (a ++ (b ++ p ∷ [])) = subst P (append_assoc a b (p ∷ [])) (step p (a ++ b) h) in
    subst P (append_assoc b (p ∷ []) a) (turned P step a (b ++ p ∷ []) once)

-- ---- no place stands twice

same_either_way : (a b : ℕ) → eqb a b ≡ eqb b a
same_either_way a b = elim (cases_Bool (eqb a b)) [
  | inl t ↦ t ∙ sym (eq-eqb b a (sym (eqb-true a b t)))
  | inr f ↦ f ∙ sym (ne_eqb b a (λ e. eqb-false a b f (sym e)))
]

-- with one behind them
apart_push : (ps : List ℕ) (p : ℕ) → are_apart ps ≡ true → among ps p ≡ false → are_apart (ps ++ p ∷ []) ≡ true
apart_push [] p a m = refl
apart_push (q ∷ ps) p a m =
    let apart = and_parts (not (among ps q)) (are_apart ps) a in
    let others = or_parts (eqb q p) (among ps p) m in
    let here : among (ps ++ p ∷ []) q ≡ false = list_any-append (λ r. eqb r q) ps (p ∷ []) ∙ none_of (among ps q) (eqb p q) (not-true (among ps q) apart.0) (same_either_way p q ∙ others.0) in
    and_from (not (among (ps ++ p ∷ []) q)) (are_apart (ps ++ p ∷ [])) (not_from_false (among (ps ++ p ∷ []) q) here) (apart_push ps p apart.1 others.1)
  where
    none_of : (x y : Bool) → x ≡ false → y ≡ false → (x || (y || false)) ≡ false
    none_of x y h k = cc

apart_turned : (p : ℕ) (ps : List ℕ) → are_apart (p ∷ ps) ≡ true → are_apart (ps ++ p ∷ []) ≡ true
apart_turned p ps h = let both = and_parts (not (among ps p)) (are_apart ps) h in apart_push ps p both.1 (not-true (among ps p) both.0)

-- ---- each needs the next

leads_push : (g : Graph) (u v : ℕ) (ps : List ℕ) (end : ℕ) → leads g u ps v ≡ true → among (needs_of g v) end ≡ true → leads g u (ps ++ v ∷ []) end ≡ true
leads_push g u v [] end h k = and_from (among (needs_of g u) v) (among (needs_of g v) end) h k
leads_push g u v (p ∷ ps) end h k =
    let both = and_parts (among (needs_of g u) p) (leads g p ps v) h in
    and_from (among (needs_of g u) p) (leads g p (ps ++ v ∷ []) end) both.0 (leads_push g p v ps end both.1 k)

ring_turned : (g : Graph) (p : ℕ) (ps : List ℕ) → is_ring g (p ∷ ps) ≡ true → is_ring g (ps ++ p ∷ []) ≡ true
ring_turned g p [] h = h
ring_turned g p (q ∷ ps) h = let both = and_parts (among (needs_of g p) q) (leads g q ps p) h in leads_push g q p ps q both.1 both.0

-- a ring without a place twice is a cycle, once it is turned so that the least stands first
pub turned_cycle : (g : Graph) (places cycle : List ℕ) → are_apart places ≡ true → is_ring g places ≡ true → IsTurned places cycle → IsCycle g cycle
turned_cycle g places cycle apart ring t = record {
  apart = ap are_apart t.turned_is ∙ turned (λ ps. are_apart ps ≡ true) apart_turned t.front t.back (sym (ap are_apart t.are) ∙ apart);
  least = t.least;
  ring = ap (is_ring g) t.turned_is ∙ turned (λ ps. is_ring g ps ≡ true) (ring_turned g) t.front t.back (sym (ap (is_ring g) t.are) ∙ ring);
}

-- ---- by places of the list

-- each of these needs the next, and the last the end
pub leads_by : (g : Graph) (u : ℕ) (ps : List ℕ) (end : ℕ) → ((i j : ℕ) → j ≡ suc i → j < length (u ∷ ps) → among (needs_of g (get_or (u ∷ ps) i 0)) (get_or (u ∷ ps) j 0) ≡ true) → among (needs_of g (get_or (u ∷ ps) (length ps) 0)) end ≡ true → leads g u ps end ≡ true
leads_by g u [] end steps last = last
leads_by g u (p ∷ ps) end steps last =
    and_from (among (needs_of g u) p) (leads g p ps end) (steps zero (suc zero) refl (omega arith)) (leads_by g p ps end (λ i j e l. steps (suc i) (suc j) (ap suc e) (omega arith)) last)

-- where two are never the same, none stands twice
pub apart_by : (ps : List ℕ) → ((i j : ℕ) → i < j → j < length ps → get_or ps i 0 ≡ get_or ps j 0 → ⊥) → are_apart ps ≡ true
apart_by [] h = refl
apart_by (p ∷ ps) h =
    let here : among ps p ≡ false = not_among ps p (λ i l e. h zero (suc i) (omega arith) (omega arith) (sym e)) in
    and_from (not (among ps p)) (are_apart ps) (not_from_false (among ps p) here) (apart_by ps (λ i j a b. h (suc i) (suc j) (omega arith) (omega arith)))

-- ---- the least first

pub turned_least : (a b : List ℕ) (p : ℕ) (ps : List ℕ) → b ≡ p ∷ ps → is_least p (a ++ b) ≡ true → begins_least (b ++ a) ≡ true
turned_least a b p ps e h =
    let parts = and_parts (is_least p a) (is_least p b) (sym (list_all-append (leb p) a b) ∙ h) in
    let both : is_least p (b ++ a) ≡ true = list_all-append (leb p) b a ∙ and_from (is_least p b) (is_least p a) parts.1 parts.0 in
    subst (λ (l : List ℕ). is_least p (l ++ a) ≡ true → begins_least (l ++ a) ≡ true) (sym e) (λ k. k) both

-- a least place, where the list is turned so that it stands first
pub turned_at : (places to : List ℕ) (at : ℕ) → at < length places → is_least (get_or places at 0) places ≡ true → to ≡ drop at places ++ take at places → IsTurned places to
turned_at places to at l least e =
    let p = get_or places at 0 in
    let from : drop at places ≡ p ∷ drop (suc at) places = drop-cons places at 0 l in
    let all : is_least p (take at places ++ drop at places) ≡ true = ap (is_least p) (take-append-drop at places) ∙ least in
    record {
      front = take at places;
      back = drop at places;
      are = sym (take-append-drop at places);
      turned_is = e;
      least = ap begins_least e ∙ turned_least (take at places) (drop at places) p (drop (suc at) places) from all;
    }

-- of a part of a list that goes to its end
pub turned_slice : (ps qs cycle : List ℕ) (at : ℕ) → qs ≡ ps → IsTurned (take (length qs - at) (drop at qs)) cycle → IsTurned (drop at ps) cycle
turned_slice ps qs cycle at e h =
    let size : length (drop at qs) ≡ length qs - at = length-drop at qs in
    subst (λ (l : List ℕ). IsTurned l cycle) (take_all (length qs - at) (drop at qs) (omega (arith, size)) ∙ ap (drop at) e) h

-- ---- the least so far

-- a lesser place is no greater than these either
pub least_down : (p q : ℕ) (ps : List ℕ) → q ≤ p → is_least p ps ≡ true → is_least q ps ≡ true
least_down p q [] l h = refl
least_down p q (r ∷ ps) l h =
    let both = and_parts (leb p r) (is_least p ps) h in
    let first : p ≤ r = leb-true p r both.0 in
    and_from (leb q r) (is_least q ps) (le-leb q r (omega arith)) (least_down p q ps l both.1)

-- one place more, which is no less
pub least_stays : (ps : List ℕ) (p at : ℕ) → at < length ps → p ≤ get_or ps at 0 → is_least p (take at ps) ≡ true → is_least p (take (at + 1) ps) ≡ true
least_stays ps p at l le h = list_all_more (leb p) ps at 0 l ∙ and_from (is_least p (take at ps)) (leb p (get_or ps at 0)) h (le-leb p (get_or ps at 0) le)
