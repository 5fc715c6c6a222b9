-- Places that are counted down, and a heap of those that are ready.
use Rattle.std.proofs.Common.{◌≡◌, inl, inr, ℕ, zero, suc, ◌+◌, ◌<◌, ◌≤◌, List, [], ◌∷◌, ◌++◌, length, take, drop, get_or, refl, sym, ◌∙◌, ap, arith, ◌&&◌}
use Rattle.std.specs.Prelude.{◌==◌, nat_lt, sum_by, Some, None}
use Rattle.std.specs.BinaryHeap.{heap_items, heap_len, IsUpperBound}
use Rattle.std.specs.List.Sorted.{IsPermutation}
use Rattle.std.specs.declared.cmp.Reverse.{Reverse}
use Rattle.std.proofs.lemmas.Bool.{cases_eq, cases_lt}
use Rattle.std.proofs.lemmas.Grind.{common_steps}
use Rattle.std.proofs.lemmas.List.Sorted.{sum_by_pushed, sum_by_popped}
use Rattle.std.proofs.lemmas.List.Sums.{sum_by-cons, sum_by-append, sum_by-take-drop, sum_by-drop_more}
use Rattle.cc_run.specs.Book.{one_where}
use Rattle.cc_graph.specs.Frontier.{times, open_at, ready_at, earlier, Lowered, IsFirstReady}
use Rattle.cc_graph.specs.declared.frontier.Frontier.{Frontier}

-- ---- the heap

abbrev heap_times : ℕ → List (Reverse ℕ) → ℕ
heap_times p = sum_by (λ r. one_where (r.0 == p))

one_self : (p q : ℕ) → p ≡ q → one_where (p == q) ≡ 1
one_self p q e = grind (arith, common_steps)

one_other : (p q : ℕ) → (p ≡ q → ⊥) → one_where (p == q) ≡ 0
one_other p q d = grind (arith, common_steps)

-- none before the first is in the heap
none_before : (x : Reverse ℕ) (xs : List (Reverse ℕ)) → IsUpperBound earlier x xs → (q : ℕ) → q < x.0 → heap_times q xs ≡ 0
none_before x [] h q l = refl
none_before x (y ∷ ys) h q l =
    let i : heap_times q ys ≡ 0 = none_before x ys h.1 q l in
    let a : heap_times q (y ∷ ys) ≡ one_where (y.0 == q) + heap_times q ys = sum_by-cons (λ r. one_where (r.0 == q)) y ys in
    let b : one_where (y.0 == q) ≡ 0 = grind (arith, common_steps) in
    omega arith

some_first : (x : Reverse ℕ) (xs : List (Reverse ℕ)) → 0 < length xs → x ≡ get_or xs 0 x → 0 < heap_times x.0 xs
some_first x [] l e = absurd (omega arith)
some_first x (y ∷ ys) l e =
    let a : heap_times x.0 (y ∷ ys) ≡ one_where (y.0 == x.0) + heap_times x.0 ys = sum_by-cons (λ r. one_where (r.0 == x.0)) y ys in
    let b : one_where (y.0 == x.0) ≡ 1 = one_self y.0 x.0 (ap (λ r. r.0) (sym e)) in
    omega arith

pub first_some : (f : Frontier) (x : Reverse ℕ) → 0 < heap_len f.ready → x ≡ get_or (heap_items f.ready) 0 x → IsUpperBound earlier x (heap_items f.ready) → IsFirstReady f (Some x.0)
first_some f x l e h = (some_first x (heap_items f.ready) (let n = f.ready.data.ok.0 in omega arith) e, none_before x (heap_items f.ready) h)

empty_times : (xs : List (Reverse ℕ)) (q : ℕ) → length xs ≡ 0 → heap_times q xs ≡ 0
empty_times [] q e = refl
empty_times (x ∷ xs) q e = absurd (omega arith)

pub first_none : (f : Frontier) → heap_len f.ready ≡ 0 → IsFirstReady f None
first_none f e = λ q. empty_times (heap_items f.ready) q (let n = f.ready.data.ok.0 in omega arith)

-- the first is the least, so there is one
first_same : (f : Frontier) (p q : ℕ) → IsFirstReady f (Some p) → IsFirstReady f (Some q) → p ≡ q
first_same f p q a b = elim (cases_eq p q) [
  | inl e ↦ e
  | inr apart ↦ elim (cases_lt p q) [
    | inl l ↦ absurd (let n : ready_at f p ≡ 0 = b.1 p l in let m : 0 < ready_at f p = a.0 in omega arith)
    | inr past ↦ absurd (let n : ready_at f q ≡ 0 = a.1 q (omega (arith, past, apart)) in let m : 0 < ready_at f q = b.0 in omega arith)
  ]
]

-- the first is taken
pub taken : (f f' : Frontier) (x : Reverse ℕ) → IsPermutation (heap_items f.ready) (x ∷ heap_items f'.ready) → IsFirstReady f (Some x.0) → (p : ℕ) → IsFirstReady f (Some p) → (q : ℕ) → ready_at f' q + one_where (p == q) ≡ ready_at f q
taken f f' x perm first p h q =
    let a : heap_times q (heap_items f'.ready) + one_where (x.0 == q) ≡ heap_times q (heap_items f.ready) = sum_by_popped (λ r. one_where (r.0 == q)) x (heap_items f.ready) (heap_items f'.ready) perm in
    ap (λ n. ready_at f' q + one_where (n == q)) (first_same f p x.0 h first) ∙ a

pub none_taken : (f f' : Frontier) → heap_len f.ready ≡ 0 → (p : ℕ) → IsFirstReady f (Some p) → (q : ℕ) → ready_at f' q + one_where (p == q) ≡ ready_at f q
none_taken f f' e p h q = absurd (let n : ready_at f p ≡ 0 = first_none f e p in let m : 0 < ready_at f p = h.0 in omega arith)

pub freed : (r : Reverse ℕ) (xs ys : List (Reverse ℕ)) → IsPermutation (r ∷ xs) ys → (q : ℕ) → sum_by (λ x. one_where (x.0 == q)) ys ≡ one_where (r.0 == q) + sum_by (λ x. one_where (x.0 == q)) xs
freed r xs ys perm q = sum_by_pushed (λ x. one_where (x.0 == q)) r xs ys perm

-- ---- counts

one_gone : (o n : ℕ) → o ≡ n → one_where (nat_lt 0 o && n == 0) ≡ 0
one_gone zero n e = grind (arith, common_steps)
one_gone (suc o) n e = grind (arith, common_steps)

gone_then : (o m n : ℕ) → n ≤ m → m ≤ o → one_where (nat_lt 0 o && m == 0) + one_where (nat_lt 0 m && n == 0) ≡ one_where (nat_lt 0 o && n == 0)
gone_then zero m n a b = grind (arith, common_steps)
gone_then (suc o) zero n a b = grind (arith, common_steps)
gone_then (suc o) (suc m) n a b = grind (arith, common_steps)

pub lowered_none : (f : Frontier) → Lowered f f []
lowered_none f = record { size = refl; fewer = λ q. omega arith; more = λ q. let z = one_gone (open_at f q) (open_at f q) refl in omega (arith, z) }

pub lowered_then : (old mid new : Frontier) (ps qs : List ℕ) → Lowered old mid ps → Lowered mid new qs → Lowered old new (ps ++ qs)
lowered_then old mid new ps qs a b = record {
  size = b.size ∙ a.size;
  fewer = λ q. let x = a.fewer q in let y = b.fewer q in let t : times q (ps ++ qs) ≡ times q ps + times q qs = sum_by-append (λ k. one_where (k == q)) ps qs in omega (arith, x, y, t);
  more = λ q.
      let x = a.fewer q in let y = b.fewer q in
      let g = gone_then (open_at old q) (open_at mid q) (open_at new q) (omega (arith, y)) (omega (arith, x)) in
      let m = a.more q in let n = b.more q in
      omega (arith, g, m, n);
}

-- the next of these places has a need that is open
pub next_open : (old now : Frontier) (ps : List ℕ) (i : ℕ) → i < length ps → Lowered old now (take i ps) → ((q : ℕ) → times q ps ≤ open_at old q) → 0 < open_at now (get_or ps i 0)
next_open old now ps i l h enough =
    let p = get_or ps i 0 in
    let f = h.fewer p in
    let e = enough p in
    let c : times p (take i ps) + times p (drop i ps) ≡ times p ps = sum_by-take-drop (λ k. one_where (k == p)) ps i in
    let d : times p (drop i ps) ≡ one_where (get_or ps i 0 == p) + times p (drop (i + 1) ps) = sum_by-drop_more (λ k. one_where (k == p)) ps i 0 l in
    let o : one_where (get_or ps i 0 == p) ≡ 1 = one_self (get_or ps i 0) p refl in
    omega (arith, f, e, c, d, o)
