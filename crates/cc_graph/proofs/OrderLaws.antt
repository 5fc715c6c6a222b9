-- An order and a cycle exclude each other.
use Rattle.std.proofs.Common.{◌≡◌, ◌⊎◌, inl, inr, ℕ, ◌<◌, List, [], ◌∷◌, ◌++◌, length, Bool, true, false, ◌||◌, eqb, refl, sym, ◌∙◌, ap, append_assoc, append-nil, eq-eqb}
use Rattle.std.proofs.lemmas.Bool.{and_parts, or_cases, or_left, or_right, cases_Bool, cases_lt, false≢true, eqb-true}
use Rattle.std.proofs.lemmas.List.{get_or_past}
use Rattle.cc_graph.specs.Graph.{Graph, needs_of, among, leads, is_ring, Follows, IsOrder, IsCycle}
use Rattle.cc_graph.proofs.GraphLemmas.{among_push, all_among}

-- a place that needs one is a place of the graph
needing : (g : Graph) (p q : ℕ) → among (needs_of g p) q ≡ true → p < length g
needing g p q h = elim (cases_lt p (length g)) [ inl l ↦ l | inr past ↦ absurd (false≢true (sym (ap (λ (ns : List ℕ). among ns q) (get_or_past g p [] past)) ∙ h)) ]

-- each place of a ring needs one of the ring
next_in : (g : Graph) (u : ℕ) (ps : List ℕ) (end k : ℕ) → leads g u ps end ≡ true → among (u ∷ ps) k ≡ true → (n : ℕ) × ((among (needs_of g k) n ≡ true) × ((n ≡ end) ⊎ (among ps n ≡ true)))
next_in g u [] end k h m = elim (or_cases (eqb u k) false m) [
  | inl e ↦ (end, (ap (λ (i : ℕ). among (needs_of g i) end) (sym (eqb-true u k e)) ∙ h, inl refl))
  | inr none ↦ absurd (false≢true none)
]
next_in g u (p ∷ ps) end k h m =
    let both = and_parts (among (needs_of g u) p) (leads g p ps end) h in
    elim (or_cases (eqb u k) (among (p ∷ ps) k) m) [
      | inl e ↦ (p, (ap (λ (i : ℕ). among (needs_of g i) p) (sym (eqb-true u k e)) ∙ both.0, inr (or_left (eqb p p) (among ps p) (eq-eqb p p refl))))
      | inr more ↦
          let found = next_in g p ps end k both.1 more in
          (found.0, (found.1.0, elim found.1.1 [ inl e ↦ inl e | inr in_ps ↦ inr (or_right (eqb p found.0) (among ps found.0) in_ps) ]))
    ]

-- the same of the whole ring
ring_next : (g : Graph) (cycle : List ℕ) (k : ℕ) → is_ring g cycle ≡ true → among cycle k ≡ true → (n : ℕ) × ((among (needs_of g k) n ≡ true) × (among cycle n ≡ true))
ring_next g [] k h m = absurd (false≢true h)
ring_next g (p ∷ ps) k h m =
    let found = next_in g p ps p k h m in
    (found.0, (found.1.0, elim found.1.1 [ inl e ↦ or_left (eqb p found.0) (among ps found.0) (eq-eqb p found.0 (sym e)) | inr in_ps ↦ or_right (eqb p found.0) (among ps found.0) in_ps ]))

-- no place of the ring stands in what follows those that have none of it
none_follows : (g : Graph) (cycle before ps : List ℕ) → is_ring g cycle ≡ true → Follows g before ps → ((k : ℕ) → among cycle k ≡ true → among before k ≡ false) → (k : ℕ) → among cycle k ≡ true → among (before ++ ps) k ≡ false
none_follows g cycle before [] h f none k m = ap (λ (l : List ℕ). among l k) (append-nil before) ∙ none k m
none_follows g cycle before (p ∷ ps) h f none k m =
    ap (λ (l : List ℕ). among l k) (sym (append_assoc before (p ∷ []) ps)) ∙ none_follows g cycle (before ++ p ∷ []) ps h f.3 still k m
  where
    -- it isn't p, whose needs stand before
    not_p : among cycle p ≡ true → ⊥
    not_p in_cycle =
        let next = ring_next g cycle p h in_cycle in
        false≢true (sym (none next.0 next.1.1) ∙ all_among (among before) (needs_of g p) next.0 f.1 next.1.0)

    still : (i : ℕ) → among cycle i ≡ true → among (before ++ p ∷ []) i ≡ false
    still i in_cycle = elim (cases_Bool (eqb p i)) [
      | inl e ↦ absurd (not_p (ap (among cycle) (eqb-true p i e) ∙ in_cycle))
      | inr apart ↦ among_push before p i ∙ none_of (among before i) (eqb p i) (none i in_cycle) apart
    ]
      where
        none_of : (x y : Bool) → x ≡ false → y ≡ false → (x || (y || false)) ≡ false
        none_of x y a b = cc

pub excluded : (g : Graph) (order cycle : List ℕ) → IsOrder g order → IsCycle g cycle → ⊥
excluded g order [] o c = false≢true c.ring
excluded g order (p ∷ ps) o c =
    let next = ring_next g (p ∷ ps) p c.ring (or_left (eqb p p) (among ps p) (eq-eqb p p refl)) in
    let stands : among order p ≡ true = o.whole p (needing g p next.0 next.1.0) in
    let absent : among order p ≡ false = none_follows g (p ∷ ps) [] order c.ring o.follows (λ k m. refl) p (or_left (eqb p p) (among ps p) (eq-eqb p p refl)) in
    false≢true (sym absent ∙ stands)
