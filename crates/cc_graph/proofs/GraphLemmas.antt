-- Places among others, and lists of them.
use Rattle.std.proofs.Common.{◌≡◌, inl, inr, ℕ, suc, zero, ◌<◌, List, [], ◌∷◌, ◌++◌, length, get_or, Bool, true, false, ◌||◌, eqb, leb, Option, Some, None, find, slice_get, refl, sym, ◌∙◌, ap, arith, eq-eqb, ne_eqb, leb-false}
use Rattle.std.specs.List.{list_all}
use Rattle.std.proofs.lemmas.Bool.{and_parts, and_from, or_cases, or_left, or_right, cases_Bool, false≢true, eqb-true}
use Rattle.std.proofs.lemmas.List.{length-map}
use Rattle.std.proofs.lemmas.List.Folds.{list_any-append}
use Rattle.std.proofs.lemmas.Option.{slice_get_within, get_or_from_slice_get}
use Rattle.cc_graph.specs.Graph.{Graph, needs, graph_of, needs_of, among, need_of, first_off, off}
use Rattle.cc_graph.specs.declared.node.Node.{Node}

-- ---- among

pub among_push : (ps : List ℕ) (p k : ℕ) → among (ps ++ p ∷ []) k ≡ (among ps k || (eqb p k || false))
among_push ps p k = list_any-append (λ q. eqb q k) ps (p ∷ [])

-- what was among them stays
pub among_more : (ps qs : List ℕ) (k : ℕ) → among ps k ≡ true → among (ps ++ qs) k ≡ true
among_more ps qs k h = list_any-append (λ q. eqb q k) ps qs ∙ or_left (among ps k) (among qs k) h

pub all_more : (ps qs ks : List ℕ) → list_all (among ps) ks ≡ true → list_all (among (ps ++ qs)) ks ≡ true
all_more ps qs [] h = refl
all_more ps qs (k ∷ ks) h =
    let both = and_parts (among ps k) (list_all (among ps) ks) h in
    and_from (among (ps ++ qs) k) (list_all (among (ps ++ qs)) ks) (among_more ps qs k both.0) (all_more ps qs ks both.1)

-- the one that was added is among them
pub among_last : (ps : List ℕ) (p : ℕ) → among (ps ++ p ∷ []) p ≡ true
among_last ps p = among_push ps p p ∙ or_right (among ps p) (eqb p p || false) (or_left (eqb p p) false (eq-eqb p p refl))

-- others are as before
or_none : (a b : Bool) → b ≡ false → (a || (b || false)) ≡ a
or_none true b h = refl
or_none false b h = rw h refl

pub among_other : (ps : List ℕ) (p k : ℕ) → (k ≡ p → ⊥) → among (ps ++ p ∷ []) k ≡ among ps k
among_other ps p k apart = among_push ps p k ∙ or_none (among ps k) (eqb p k) (ne_eqb p k (λ e. apart (sym e)))

-- a place among them is one that all pass
pub all_among : (p : ℕ → Bool) (ks : List ℕ) (k : ℕ) → list_all p ks ≡ true → among ks k ≡ true → p k ≡ true
all_among p [] k h m = absurd (false≢true m)
all_among p (j ∷ ks) k h m =
    let both = and_parts (p j) (list_all p ks) h in
    elim (or_cases (eqb j k) (among ks k) m) [
      | inl here ↦ sym (ap p (eqb-true j k here)) ∙ both.0
      | inr more ↦ all_among p ks k both.1 more
    ]

-- one at a place of the list is among them
pub among_at : (ks : List ℕ) (i k : ℕ) → i < length ks → get_or ks i 0 ≡ k → among ks k ≡ true
among_at [] i k h e = absurd (omega arith)
among_at (j ∷ ks) zero k h e = or_left (eqb j k) (among ks k) (eq-eqb j k e)
among_at (j ∷ ks) (suc i) k h e = or_right (eqb j k) (among ks k) (among_at ks i k (omega arith) e)

pub among_got : (ks : List ℕ) (i k : ℕ) → slice_get ks i ≡ Some k → among ks k ≡ true
among_got ks i k h = among_at ks i k (slice_get_within ks i k h) (get_or_from_slice_get ks i k 0 h)

-- none of them is the place
pub not_among : (ks : List ℕ) (k : ℕ) → ((i : ℕ) → i < length ks → get_or ks i 0 ≡ k → ⊥) → among ks k ≡ false
not_among [] k h = refl
not_among (j ∷ ks) k h =
    let here : eqb j k ≡ false = ne_eqb j k (λ e. h zero (omega arith) e) in
    let more : among ks k ≡ false = not_among ks k (λ i l e. h (suc i) (omega arith) e) in
    cc

-- ---- needs that are places

none_here : (p : ℕ → Bool) (ks : List ℕ) (j v : ℕ) → find p ks ≡ None → slice_get ks j ≡ Some v → p v ≡ false
none_here p [] j v h s = absurd (cc)
none_here p (k ∷ ks) zero v h s = elim (cases_Bool (p k)) [ inl t ↦ absurd (let e : Some k ≡ None = rw t at h in cc) | inr f ↦ ap p (let e : v ≡ k = cc in e) ∙ f ]
none_here p (k ∷ ks) (suc j) v h s = elim (cases_Bool (p k)) [ inl t ↦ absurd (let e : Some k ≡ None = rw t at h in cc) | inr f ↦ none_here p ks j v (rw f at h) s ]

-- where there is none, there was none before either
need_none : (node : ℕ) (o : Option ℕ) (more : Option (ℕ × ℕ)) → need_of node o more ≡ None → (o ≡ None) × (more ≡ None)
need_none node None more h = (refl, h)
need_none node (Some need) more h = absurd (cc)

first_within : (count node : ℕ) (g : Graph) (k j v : ℕ) → first_off count node g ≡ None → slice_get (needs_of g k) j ≡ Some v → v < count
first_within count node [] k j v h s = absurd (cc)
first_within count node (ns ∷ g) zero j v h s = leb-false count v (none_here (leb count) ns j v (need_none node (find (leb count) ns) (first_off count (suc node) g) h).0 s)
first_within count node (ns ∷ g) (suc k) j v h s = first_within count (suc node) g k j v (need_none node (find (leb count) ns) (first_off count (suc node) g) h).1 s

-- where each need is a place, this one is
pub need_within : (g : Graph) (k j v : ℕ) → off g ≡ None → slice_get (needs_of g k) j ≡ Some v → v < length g
need_within g k j v h s = first_within (length g) zero g k j v h s

-- ---- the needs of a node

pub node_needs : (nodes : List Node) (i : ℕ) (n : Node) → i < length nodes → n ≡ get_or nodes i n → needs_of (graph_of nodes) i ≡ n.needs
node_needs [] i n l e = absurd (omega arith)
node_needs (m ∷ ms) zero n l e = ap (λ (k : Node). k.needs) (sym e)
node_needs (m ∷ ms) (suc i) n l e = node_needs ms i n (omega arith) e

pub graph_size : (nodes : List Node) → length (graph_of nodes) ≡ length nodes
graph_size nodes = length-map nodes needs
