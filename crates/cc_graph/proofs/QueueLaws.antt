-- Laws on commands with prerequisites as a queue.
use Rattle.std.proofs.Common.{◌≡◌, inl, inr, ℕ, zero, suc, ◌+◌, ◌*◌, ◌<◌, ◌≤◌, List, [], ◌∷◌, ◌++◌, length, map, take, set, get_or, replicate, refl, sym, ◌∙◌, ap, subst, arith, Bool, true, false, not, ◌&&◌, ◌||◌, All, Option, Some, None, take_all, length-take-le}
use Rattle.std.specs.Prelude.{◌==◌, nat_lt}
use Rattle.std.specs.List.{list_all}
use Rattle.std.proofs.lemmas.Bool.{cases_eq, cases_lt}
use Rattle.std.proofs.lemmas.Grind.{common_steps}
use Rattle.std.proofs.lemmas.List.{take_more, map-append, length-map, get_or-set_same, get_or-set_other, get_or_past}
use Rattle.std.proofs.lemmas.List.Sums.{sum_by-cons}
use Rattle.std.proofs.lemmas.Option.{slice_get-get_or}
use Rattle.cc_host.specs.Status.{is_success}
use Rattle.cc_host.specs.declared.event.Status.{Status}
use Rattle.cc_run.specs.Book.{one_where}
use Rattle.cc_run.specs.Marks.{has_begun, has_succeeded}
use Rattle.cc_run.specs.Plan.{may, IsNext}
use Rattle.cc_run.specs.declared.mark.Mark.{Mark}
use Rattle.cc_run.specs.declared.mark.Mark.TheVariants.{Began, Over}
use Rattle.cc_graph.specs.Frontier.{times, open_at, ready_at, Sound, Lowered, IsFirstReady}
use Rattle.cc_graph.specs.Graph.{Graph, needs as needs_list, graph_of, needs_of, off}
use Rattle.cc_graph.specs.Queue.{command, graph_plan, open_needs, waiters_at, unless, Tells}
use Rattle.cc_graph.specs.declared.frontier.Frontier.{Frontier}
use Rattle.cc_graph.specs.declared.node.Node.{Node}
use Rattle.cc_graph.proofs.FrontierLemmas.{lowered_none}
use Rattle.cc_graph.proofs.GraphLemmas.{graph_size, need_within, node_needs}

-- ---- what is open

-- none is open exactly where all succeeded
none_open : (marks : List Mark) (ks : List ℕ) → (open_needs marks ks == 0) ≡ list_all (has_succeeded marks) ks
none_open marks [] = refl
none_open marks (k ∷ ks) =
    let i = none_open marks ks in
    let a : open_needs marks (k ∷ ks) ≡ one_where (not (has_succeeded marks k)) + open_needs marks ks = sum_by-cons (λ j. one_where (not (has_succeeded marks j))) k ks in
    ap (λ n. n == 0) a ∙ both (has_succeeded marks k) (open_needs marks ks) (list_all (has_succeeded marks) ks) i
  where
    both : (b : Bool) (n : ℕ) (h : Bool) → (n == 0) ≡ h → (one_where (not b) + n == 0) ≡ (b && h)
    both true n h e = grind (arith, common_steps)
    both false n h e = grind (arith, common_steps)

-- a success leaves as many fewer as it stands there, where it is the first
fewer_open : (marks : List Mark) (k : ℕ) (status : Status) (ks : List ℕ) → is_success status ≡ true → open_needs (marks ++ Over k status ∷ []) ks + unless (has_succeeded marks k) (times k ks) ≡ open_needs marks ks
fewer_open marks k status [] s = let z : unless (has_succeeded marks k) 0 ≡ 0 = none (has_succeeded marks k) in omega (arith, z)
  where
    none : (b : Bool) → unless b 0 ≡ 0
    none true = refl
    none false = refl
fewer_open marks k status (j ∷ js) s =
    let i = fewer_open marks k status js s in
    let a : open_needs (marks ++ Over k status ∷ []) (j ∷ js) ≡ one_where (not (has_succeeded (marks ++ Over k status ∷ []) j)) + open_needs (marks ++ Over k status ∷ []) js = sum_by-cons (λ x. one_where (not (has_succeeded (marks ++ Over k status ∷ []) x))) j js in
    let b : open_needs marks (j ∷ js) ≡ one_where (not (has_succeeded marks j)) + open_needs marks js = sum_by-cons (λ x. one_where (not (has_succeeded marks x))) j js in
    let c : times k (j ∷ js) ≡ one_where (j == k) + times k js = sum_by-cons (λ x. one_where (x == k)) j js in
    let o : one_where (not (has_succeeded (marks ++ Over k status ∷ []) j)) + unless (has_succeeded marks k) (one_where (j == k)) ≡ one_where (not (has_succeeded marks j)) = one in
    let u : unless (has_succeeded marks k) (times k (j ∷ js)) ≡ unless (has_succeeded marks k) (one_where (j == k)) + unless (has_succeeded marks k) (times k js) = ap (unless (has_succeeded marks k)) c ∙ sum_unless (has_succeeded marks k) (one_where (j == k)) (times k js) in
    omega (arith, i, a, b, o, u)
  where
    sum_unless : (b : Bool) (m n : ℕ) → unless b (m + n) ≡ unless b m + unless b n
    sum_unless true m n = omega arith
    sum_unless false m n = refl

    step : (x y e : Bool) → (e ≡ true → x ≡ y) → one_where (not (x || e)) + unless y (one_where e) ≡ one_where (not x)
    step x y false h = cases x y
      where
        cases : (x y : Bool) → one_where (not (x || false)) + unless y 0 ≡ one_where (not x)
        cases true true = refl
        cases true false = refl
        cases false true = refl
        cases false false = refl
    step true y true h = let g : true ≡ y = h refl in subst (λ z. 0 + unless z 1 ≡ 0) g refl
    step false y true h = let g : false ≡ y = h refl in subst (λ z. 0 + unless z 1 ≡ 1) g refl

    one : one_where (not (has_succeeded (marks ++ Over k status ∷ []) j)) + unless (has_succeeded marks k) (one_where (j == k)) ≡ one_where (not (has_succeeded marks j))
    one =
        let w : has_succeeded (marks ++ Over k status ∷ []) j ≡ (has_succeeded marks j || (k == j)) = grind (arith, common_steps) in
        let f : (k == j) ≡ (j == k) = grind arith in
        ap (λ b. one_where (not b) + unless (has_succeeded marks k) (one_where (j == k))) (w ∙ ap (λ b. has_succeeded marks j || b) f)
        ∙ step (has_succeeded marks j) (has_succeeded marks k) (j == k) (λ e. ap (has_succeeded marks) (let q : j ≡ k = grind (arith, common_steps) in q))

module _ (g : Graph) (waiters : List (List ℕ)) (f : Frontier) (marks : List Mark) (t : Tells g waiters f marks) where
  -- ---- which may be started

  may_is : (nodes : List Node) → g ≡ graph_of nodes → (p : ℕ) → p < length g → ready_at f p ≡ one_where (may (graph_plan nodes) marks p)
  may_is nodes e p l =
      let r = t.ready p in
      let n : nat_lt p (length g) ≡ true = grind (arith, common_steps) in
      let z : (open_at f p == 0) ≡ list_all (has_succeeded marks) (needs_of (graph_of nodes) p) = ap (λ x. x == 0) (t.counted p) ∙ none_open marks (needs_of g p) ∙ ap (λ x. list_all (has_succeeded marks) (needs_of x p)) e in
      r ∙ ap (λ b. one_where (b && (not (has_begun marks p) && open_at f p == 0))) n ∙ ap (λ b. one_where (not (has_begun marks p) && b)) z

  ready_below : (p : ℕ) → 0 < ready_at f p → p < length g
  ready_below p h = elim (cases_lt p (length g)) [
    | inl l ↦ l
    | inr past ↦ absurd (let r = t.ready p in let n : nat_lt p (length g) ≡ false = grind (arith, common_steps) in let z : ready_at f p ≡ 0 = r ∙ ap (λ b. one_where (b && (not (has_begun marks p) && open_at f p == 0))) n in omega (arith, z, h))
  ]

yes_if : (b : Bool) → 0 < one_where b → b ≡ true
yes_if true h = refl
yes_if false h = absurd (omega arith)

no_if : (b : Bool) → one_where b ≡ 0 → b ≡ false
no_if true h = absurd (omega arith)
no_if false h = refl

-- the first that is ready is the next
pub next_graph : (nodes : List Node) (waiters : List (List ℕ)) (f : Frontier) (marks : List Mark) (o : Option ℕ) → Tells (graph_of nodes) waiters f marks → IsFirstReady f o → IsNext (graph_plan nodes) marks o
next_graph nodes waiters f marks None t h = λ q l.
    let size : length (map command nodes) ≡ length nodes = length-map nodes command in
    let l' : q < length (graph_of nodes) = let s = graph_size nodes in omega (arith, size, s, l) in
    no_if (may (graph_plan nodes) marks q) (sym (may_is (graph_of nodes) waiters f marks t nodes refl q l') ∙ h q)
next_graph nodes waiters f marks (Some p) t h =
    let size : length (map command nodes) ≡ length nodes = length-map nodes command in
    let s = graph_size nodes in
    let l : p < length (graph_of nodes) = ready_below (graph_of nodes) waiters f marks t p h.0 in
    record {
      below = omega (arith, size, s, l);
      holds = yes_if (may (graph_plan nodes) marks p) (subst (λ n. 0 < n) (may_is (graph_of nodes) waiters f marks t nodes refl p l) h.0);
      least = λ q k. no_if (may (graph_plan nodes) marks q) (sym (may_is (graph_of nodes) waiters f marks t nodes refl q (omega (arith, k, l))) ∙ h.1 q k);
    }

-- and the next is the first that is ready
first_of : (nodes : List Node) (waiters : List (List ℕ)) (f : Frontier) (marks : List Mark) (p : ℕ) → Tells (graph_of nodes) waiters f marks → IsNext (graph_plan nodes) marks (Some p) → IsFirstReady f (Some p)
first_of nodes waiters f marks p t h =
    let size : length (map command nodes) ≡ length nodes = length-map nodes command in
    let s = graph_size nodes in
    let b = h.below in
    let l : p < length (graph_of nodes) = omega (arith, size, s, b) in (
      let r = may_is (graph_of nodes) waiters f marks t nodes refl p l in let y : one_where (may (graph_plan nodes) marks p) ≡ 1 = ap one_where h.holds in omega (arith, r, y),
      λ q k. may_is (graph_of nodes) waiters f marks t nodes refl q (omega (arith, k, l)) ∙ ap one_where (h.least q k),
    )

-- ---- a start

pub begin_graph : (nodes : List Node) (waiters : List (List ℕ)) (f f' : Frontier) (marks : List Mark) (p : ℕ) → Tells (graph_of nodes) waiters f marks → IsNext (graph_plan nodes) marks (Some p) → Sound f' → f'.counts ≡ f.counts → ((k : ℕ) → IsFirstReady f (Some k) → (q : ℕ) → ready_at f' q + one_where (k == q) ≡ ready_at f q) → Tells (graph_of nodes) waiters f' (marks ++ Began p ∷ [])
begin_graph nodes waiters f f' marks p t h sound same took =
    let first : IsFirstReady f (Some p) = first_of nodes waiters f marks p t h in
    let size : length (map command nodes) ≡ length nodes = length-map nodes command in
    let gs = graph_size nodes in
    let b = h.below in
    let l : p < length (graph_of nodes) = omega (arith, size, gs, b) in
    let at : (q : ℕ) → open_at f' q ≡ open_at f q = λ q. ap (λ v. get_or v.items q 0) same in
    let still : (k : ℕ) → has_succeeded (marks ++ Began p ∷ []) k ≡ has_succeeded marks k = λ k. grind (arith, common_steps) in
    let more : (q : ℕ) → has_begun (marks ++ Began p ∷ []) q ≡ (has_begun marks q || (p == q)) = λ q. grind (arith, common_steps) in
    let free : open_at f p ≡ 0 = ready_zero (nat_lt p (length (graph_of nodes))) (has_begun marks p) (open_at f p) (subst (λ n. 0 < n) (t.ready p) first.0) in
    record {
      sound = sound;
      size = ap (λ v. length v.items) same ∙ t.size;
      counted = λ q. at q ∙ t.counted q ∙ sym (same_open still (needs_of (graph_of nodes) q));
      waits = λ k q. t.waits k q ∙ ap (λ b. unless b (times k (needs_of (graph_of nodes) q))) (sym (still k));
      begun = λ q e. at q ∙ elim (cases_eq p q) [
        | inl k ↦ ap (open_at f) (sym k) ∙ free
        | inr d ↦ t.begun q (let m = more q in let n : (p == q) ≡ false = grind (arith, common_steps) in let r : has_begun marks q ≡ true = grind (arith, common_steps) in r)
      ];
      ready = λ q.
          let a = took p first q in
          let r = t.ready q in
          let m = more q in
          let z = at q in
          elim (cases_eq p q) [
            | inl k ↦
                let o : one_where (p == q) ≡ 1 = grind (arith, common_steps) in
                let y : one_where (nat_lt q (length (graph_of nodes)) && (not (has_begun marks q) && open_at f q == 0)) ≤ 1 = at_most (nat_lt q (length (graph_of nodes)) && (not (has_begun marks q) && open_at f q == 0)) in
                let yes : has_begun (marks ++ Began p ∷ []) q ≡ true = grind (arith, common_steps) in
                let w : one_where (nat_lt q (length (graph_of nodes)) && (not (has_begun (marks ++ Began p ∷ []) q) && open_at f' q == 0)) ≡ 0 = ap (λ b. one_where (nat_lt q (length (graph_of nodes)) && (not b && open_at f' q == 0))) yes ∙ none (nat_lt q (length (graph_of nodes))) in
                omega (arith, a, r, o, y, w)
            | inr d ↦
                let o : one_where (p == q) ≡ 0 = grind (arith, common_steps) in
                let same_begun : has_begun (marks ++ Began p ∷ []) q ≡ has_begun marks q = grind (arith, common_steps) in
                let w : one_where (nat_lt q (length (graph_of nodes)) && (not (has_begun (marks ++ Began p ∷ []) q) && open_at f' q == 0)) ≡ one_where (nat_lt q (length (graph_of nodes)) && (not (has_begun marks q) && open_at f q == 0)) = ap (λ b. one_where (nat_lt q (length (graph_of nodes)) && (not b && open_at f' q == 0))) same_begun ∙ ap (λ n. one_where (nat_lt q (length (graph_of nodes)) && (not (has_begun marks q) && n == 0))) z in
                omega (arith, a, r, o, w)
          ];
    }
  where
    ready_zero : (x b : Bool) (n : ℕ) → 0 < one_where (x && (not b && n == 0)) → n ≡ 0
    ready_zero true false zero h = refl
    ready_zero true false (suc n) h = absurd (grind (arith, common_steps))
    ready_zero true true n h = absurd (omega arith)
    ready_zero false b n h = absurd (omega arith)

    at_most : (b : Bool) → one_where b ≤ 1
    at_most true = omega arith
    at_most false = omega arith

    none : (b : Bool) → one_where (b && false) ≡ 0
    none true = refl
    none false = refl

    same_open : ((k : ℕ) → has_succeeded (marks ++ Began p ∷ []) k ≡ has_succeeded marks k) → (ks : List ℕ) → open_needs (marks ++ Began p ∷ []) ks ≡ open_needs marks ks
    same_open h [] = refl
    same_open h (k ∷ ks) = sum_by-cons (λ j. one_where (not (has_succeeded (marks ++ Began p ∷ []) j))) k ks ∙ ap (λ b. one_where (not b) + open_needs (marks ++ Began p ∷ []) ks) (h k) ∙ ap (λ n. one_where (not (has_succeeded marks k)) + n) (same_open h ks) ∙ sym (sum_by-cons (λ j. one_where (not (has_succeeded marks j))) k ks)

-- ---- an end

-- those that wait are counted as often as they wait
pub enough_open : (g : Graph) (waiters : List (List ℕ)) (f : Frontier) (marks : List Mark) (k : ℕ) (status : Status) → Tells g waiters f marks → is_success status ≡ true → (q : ℕ) → times q (waiters_at waiters k) ≤ open_at f q
enough_open g waiters f marks k status t s q =
    let w = t.waits k q in
    let c = t.counted q in
    let e = fewer_open marks k status (needs_of g q) s in
    omega (arith, w, c, e)

-- it ended with 0
pub end_graph : (g : Graph) (waiters waiters' : List (List ℕ)) (f f' : Frontier) (marks : List Mark) (k : ℕ) (status : Status) → Tells g waiters f marks → is_success status ≡ true → waiters_at waiters' k ≡ [] → ((j : ℕ) → (j ≡ k → ⊥) → waiters_at waiters' j ≡ waiters_at waiters j) → Sound f' → Lowered f f' (waiters_at waiters k) → Tells g waiters' f' (marks ++ Over k status ∷ [])
end_graph g waiters waiters' f f' marks k status t s here there sound lowered =
    let begun_same : (q : ℕ) → has_begun (marks ++ Over k status ∷ []) q ≡ has_begun marks q = λ q. grind (arith, common_steps) in
    record {
      sound = sound;
      size = lowered.size ∙ t.size;
      counted = λ q.
          let w = t.waits k q in
          let c = t.counted q in
          let e = fewer_open marks k status (needs_of g q) s in
          let l = lowered.fewer q in
          omega (arith, w, c, e, l);
      waits = λ j q. elim (cases_eq j k) [
        | inl e ↦
            let yes : has_succeeded (marks ++ Over k status ∷ []) j ≡ true = grind (arith, common_steps) in
            ap (times q) (ap (waiters_at waiters') e ∙ here) ∙ sym (ap (λ b. unless b (times j (needs_of g q))) yes)
        | inr d ↦
            let same : has_succeeded (marks ++ Over k status ∷ []) j ≡ has_succeeded marks j = let n : (k == j) ≡ false = grind (arith, common_steps) in grind (arith, common_steps) in
            ap (times q) (there j d) ∙ t.waits j q ∙ sym (ap (λ b. unless b (times j (needs_of g q))) same)
      ];
      begun = λ q e. let z = t.begun q (sym (begun_same q) ∙ e) in let l = lowered.fewer q in omega (arith, z, l);
      ready = λ q.
          let r = t.ready q in
          let m = lowered.more q in
          let l = lowered.fewer q in
          let past : length g ≤ q → open_at f q ≡ 0 = λ p. get_or_past f.counts.items q 0 (let n = t.size in omega (arith, n, p)) in
          let x : one_where (nat_lt q (length g) && (not (has_begun marks q) && open_at f q == 0)) + one_where (nat_lt 0 (open_at f q) && open_at f' q == 0) ≡ one_where (nat_lt q (length g) && (not (has_begun marks q) && open_at f' q == 0)) =
          sums (nat_lt q (length g)) (has_begun marks q) (open_at f q) (open_at f' q) (omega (arith, l)) (λ e. past (grind (arith, common_steps))) (t.begun q) in
          let y : one_where (nat_lt q (length g) && (not (has_begun (marks ++ Over k status ∷ []) q) && open_at f' q == 0)) ≡ one_where (nat_lt q (length g) && (not (has_begun marks q) && open_at f' q == 0)) = ap (λ b. one_where (nat_lt q (length g) && (not b && open_at f' q == 0))) (begun_same q) in
          omega (arith, r, m, x, y);
    }
  where
    sums : (x b : Bool) (o n : ℕ) → n ≤ o → (x ≡ false → o ≡ 0) → (b ≡ true → o ≡ 0) → one_where (x && (not b && o == 0)) + one_where (nat_lt 0 o && n == 0) ≡ one_where (x && (not b && n == 0))
    sums x b zero n l e f = let z : n ≡ 0 = omega (arith, l) in subst (λ m. one_where (x && (not b && true)) + 0 ≡ one_where (x && (not b && m == 0))) (sym z) (omega arith)
    sums false b (suc o) n l e f = absurd (let z : suc o ≡ 0 = e refl in omega (arith, z))
    sums true true (suc o) n l e f = absurd (let z : suc o ≡ 0 = f refl in omega (arith, z))
    sums true false (suc o) n l e f = grind (arith, common_steps)

-- it ended with another status
pub end_failed : (g : Graph) (waiters : List (List ℕ)) (f : Frontier) (marks : List Mark) (k : ℕ) (status : Status) → Tells g waiters f marks → is_success status ≡ false → Tells g waiters f (marks ++ Over k status ∷ [])
end_failed g waiters f marks k status t s =
    let begun_same : (q : ℕ) → has_begun (marks ++ Over k status ∷ []) q ≡ has_begun marks q = λ q. grind (arith, common_steps) in
    let still : (q : ℕ) → has_succeeded (marks ++ Over k status ∷ []) q ≡ has_succeeded marks q = λ q. grind (arith, common_steps) in
    record {
      sound = t.sound;
      size = t.size;
      counted = λ q. t.counted q ∙ sym (same_open still (needs_of g q));
      waits = λ j q. t.waits j q ∙ ap (λ b. unless b (times j (needs_of g q))) (sym (still j));
      begun = λ q e. t.begun q (sym (begun_same q) ∙ e);
      ready = λ q. t.ready q ∙ ap (λ b. one_where (nat_lt q (length g) && (not b && open_at f q == 0))) (sym (begun_same q));
    }
  where
    same_open : ((j : ℕ) → has_succeeded (marks ++ Over k status ∷ []) j ≡ has_succeeded marks j) → (ks : List ℕ) → open_needs (marks ++ Over k status ∷ []) ks ≡ open_needs marks ks
    same_open h [] = refl
    same_open h (j ∷ js) = sum_by-cons (λ x. one_where (not (has_succeeded (marks ++ Over k status ∷ []) x))) j js ∙ ap (λ b. one_where (not b) + open_needs (marks ++ Over k status ∷ []) js) (h j) ∙ ap (λ n. one_where (not (has_succeeded marks j)) + n) (same_open h js) ∙ sym (sum_by-cons (λ x. one_where (not (has_succeeded marks x))) j js)

-- it ended with 0, and is no place
pub end_past : (g : Graph) (waiters : List (List ℕ)) (f : Frontier) (marks : List Mark) (k : ℕ) (status : Status) → Tells g waiters f marks → is_success status ≡ true → length waiters ≤ k → Tells g waiters f (marks ++ Over k status ∷ [])
end_past g waiters f marks k status t s past =
    let none : waiters_at waiters k ≡ [] = get_or_past waiters k [] past in
    end_graph g waiters waiters f f marks k status t s none (λ j d. refl) t.sound (subst (Lowered f f) (sym none) (lowered_none f))

-- it is a place, whose list was cleared
pub end_at : (g : Graph) (waiters waiters' : List (List ℕ)) (f f' : Frontier) (marks : List Mark) (k : ℕ) (status : Status) → Tells g waiters f marks → is_success status ≡ true → k < length waiters → waiters' ≡ set waiters k [] → Sound f' → Lowered f f' (waiters_at waiters k) → Tells g waiters' f' (marks ++ Over k status ∷ [])
end_at g waiters waiters' f f' marks k status t s l e sound lowered =
    end_graph g waiters waiters' f f' marks k status t s
    (ap (λ ws. waiters_at ws k) e ∙ get_or-set_same waiters k [] [] l)
    (λ j d. ap (λ ws. waiters_at ws j) e ∙ get_or-set_other waiters k j [] [] d)
    sound lowered

-- ---- a queue that is built

-- a queue of which nothing was started
pub record Built (g : Graph) (waiters : List (List ℕ)) (f : Frontier) : Type 0 where
  pub sound : Sound f
  pub size : length f.counts.items ≡ length g
  pub counted : (p : ℕ) → open_at f p ≡ length (needs_of g p)
  pub waits : (k p : ℕ) → times p (waiters_at waiters k) ≡ times k (needs_of g p)
  pub ready : (p : ℕ) → ready_at f p ≡ one_where (nat_lt p (length g) && open_at f p == 0)

all_open : (ks : List ℕ) → length ks ≡ open_needs [] ks
all_open [] = refl
all_open (k ∷ ks) = let i = all_open ks in let a : open_needs [] (k ∷ ks) ≡ 1 + open_needs [] ks = sum_by-cons (λ j. one_where (not (has_succeeded [] j))) k ks in omega (arith, i, a)

pub built_tells : (g : Graph) (waiters : List (List ℕ)) (f : Frontier) → Built g waiters f → Tells g waiters f []
built_tells g waiters f b = record {
  sound = b.sound;
  size = b.size;
  counted = λ p. b.counted p ∙ all_open (needs_of g p);
  waits = b.waits;
  begun = λ p e. absurd (cc);
  ready = b.ready;
}

lists_none : (n k : ℕ) → waiters_at (replicate n []) k ≡ []
lists_none zero k = refl
lists_none (suc n) zero = refl
lists_none (suc n) (suc k) = lists_none n k

pub built_none : (waiters : List (List ℕ)) (f : Frontier) (n : ℕ) → Sound f → f.counts.items ≡ [] → ((q : ℕ) → ready_at f q ≡ 0) → waiters ≡ replicate n [] → Built [] waiters f
built_none waiters f n sound e none w = record {
  sound = sound;
  size = ap length e;
  counted = λ p. ap (λ xs. get_or xs p 0) e;
  waits = λ k p. ap (times p) (ap (λ ws. waiters_at ws k) w ∙ lists_none n k);
  ready = λ p. none p ∙ (let n : nat_lt p 0 ≡ false = grind (arith, common_steps) in sym (ap (λ b. one_where (b && open_at f p == 0)) n));
}

pushed_at : {X : Type 0} (xs : List X) (x d : X) (p : ℕ) → p ≡ length xs → get_or (xs ++ x ∷ []) p d ≡ x
pushed_at xs x d p e = grind (arith, common_steps)

pushed_other : {X : Type 0} (xs : List X) (x d : X) (p : ℕ) → (p ≡ length xs → ⊥) → get_or (xs ++ x ∷ []) p d ≡ get_or xs p d
pushed_other [] x d zero e = absurd (e refl)
pushed_other [] x d (suc p) e = refl
pushed_other (y ∷ ys) x d zero e = refl
pushed_other (y ∷ ys) x d (suc p) e = pushed_other ys x d p (λ k. e (let r : suc p ≡ length (y ∷ ys) = omega (arith, k) in r))

pub built_more : (g : Graph) (ns : List ℕ) (waiters waiters' : List (List ℕ)) (f f' : Frontier) (place n : ℕ) → Built g waiters f → place ≡ length g → n ≡ length ns → Sound f' → f'.counts.items ≡ f.counts.items ++ n ∷ [] → ((q : ℕ) → ready_at f' q ≡ ready_at f q + one_where (q == length f.counts.items && n == 0)) → ((k q : ℕ) → times q (waiters_at waiters' k) ≡ times q (waiters_at waiters k) + one_where (place == q) * times k ns) → Built (g ++ ns ∷ []) waiters' f'
built_more g ns waiters waiters' f f' place n b e size sound counts more waits =
    let s = b.size in
    let longer : length (g ++ ns ∷ []) ≡ length g + 1 = grind (arith, common_steps) in
    let here : open_at f' place ≡ n = ap (λ xs. get_or xs place 0) counts ∙ pushed_at f.counts.items n 0 place (omega (arith, s, e)) in
    let there : (q : ℕ) → (q ≡ place → ⊥) → open_at f' q ≡ open_at f q = λ q d. ap (λ xs. get_or xs q 0) counts ∙ pushed_other f.counts.items n 0 q (λ k. d (omega (arith, k, s, e))) in
    let needs_here : needs_of (g ++ ns ∷ []) place ≡ ns = pushed_at g ns [] place e in
    let needs_there : (q : ℕ) → (q ≡ place → ⊥) → needs_of (g ++ ns ∷ []) q ≡ needs_of g q = λ q d. pushed_other g ns [] q (λ k. d (k ∙ sym e)) in
    let past : needs_of g place ≡ [] = get_or_past g place [] (omega (arith, e)) in
    record {
      sound = sound;
      size = ap length counts ∙ (let r : length (f.counts.items ++ n ∷ []) ≡ length f.counts.items + 1 = grind (arith, common_steps) in omega (arith, r, s, longer));
      counted = λ q. elim (cases_eq q place) [
        | inl k ↦ ap (open_at f') k ∙ here ∙ size ∙ sym (ap length (ap (needs_of (g ++ ns ∷ [])) k ∙ needs_here))
        | inr d ↦ there q d ∙ b.counted q ∙ sym (ap length (needs_there q d))
      ];
      waits = λ k q. elim (cases_eq q place) [
        | inl j ↦
            let w = waits k q in
            let o : one_where (place == q) ≡ 1 = grind (arith, common_steps) in
            let z : times q (waiters_at waiters k) ≡ 0 = b.waits k q ∙ ap (times k) (ap (needs_of g) j ∙ past) in
            let y : one_where (place == q) * times k ns ≡ times k ns = ap (λ m. m * times k ns) o ∙ (let r : 1 * times k ns ≡ times k ns = omega arith in r) in
            let x : times k (needs_of (g ++ ns ∷ []) q) ≡ times k ns = ap (times k) (ap (needs_of (g ++ ns ∷ [])) j ∙ needs_here) in
            omega (arith, w, z, y, x)
        | inr d ↦
            let w = waits k q in
            let o : one_where (place == q) ≡ 0 = grind (arith, common_steps) in
            let y : one_where (place == q) * times k ns ≡ 0 = ap (λ m. m * times k ns) o ∙ (let r : 0 * times k ns ≡ 0 = omega arith in r) in
            let z = b.waits k q in
            let x : times k (needs_of (g ++ ns ∷ []) q) ≡ times k (needs_of g q) = ap (times k) (needs_there q d) in
            omega (arith, w, y, z, x)
      ];
      ready = λ q.
          let m = more q in
          let r = b.ready q in
          elim (cases_eq q place) [
            | inl k ↦
                let l : nat_lt q (length g) ≡ false = grind (arith, common_steps) in
                let l' : nat_lt q (length (g ++ ns ∷ [])) ≡ true = grind (arith, common_steps) in
                let z : one_where (nat_lt q (length g) && open_at f q == 0) ≡ 0 = ap (λ b. one_where (b && open_at f q == 0)) l in
                let t : (q == length f.counts.items) ≡ true = grind (arith, common_steps) in
                let x : one_where (q == length f.counts.items && n == 0) ≡ one_where (n == 0) = ap (λ b. one_where (b && n == 0)) t in
                let y : one_where (nat_lt q (length (g ++ ns ∷ [])) && open_at f' q == 0) ≡ one_where (n == 0) = ap (λ b. one_where (b && open_at f' q == 0)) l' ∙ ap (λ v. one_where (v == 0)) (ap (open_at f') k ∙ here) in
                omega (arith, m, r, z, x, y)
            | inr d ↦
                let l : nat_lt q (length (g ++ ns ∷ [])) ≡ nat_lt q (length g) = grind (arith, common_steps) in
                let t : (q == length f.counts.items) ≡ false = grind (arith, common_steps) in
                let x : one_where (q == length f.counts.items && n == 0) ≡ 0 = ap (λ b. one_where (b && n == 0)) t in
                let y : one_where (nat_lt q (length (g ++ ns ∷ [])) && open_at f' q == 0) ≡ one_where (nat_lt q (length g) && open_at f q == 0) = ap (λ b. one_where (b && open_at f' q == 0)) l ∙ ap (λ v. one_where (nat_lt q (length g) && v == 0)) (there q d) in
                omega (arith, m, r, x, y)
          ];
    }

-- each need of a place is one
pub all_within : (g : Graph) (p : ℕ) → off g ≡ None → All (λ k. k < length g) (needs_of g p)
all_within g p h = λ k d l. need_within g p k (get_or (needs_of g p) k d) h (slice_get-get_or (needs_of g p) k d l)

-- ---- the nodes of a queue that is built

pub node_within : (nodes : List Node) (waiters : List (List ℕ)) (i : ℕ) (node : Node) (ns : List ℕ) → off (graph_of nodes) ≡ None → i < length nodes → node ≡ get_or nodes i node → ns ≡ node.needs → length waiters ≡ length nodes → All (λ k. k < length waiters) ns
node_within nodes waiters i node ns closed l is needs size =
    let same : needs_of (graph_of nodes) i ≡ ns = node_needs nodes i node l is ∙ sym needs in
    let n : length (graph_of nodes) ≡ length waiters = graph_size nodes ∙ sym size in
    subst (λ m. All (λ k. k < m) ns) n (subst (All (λ k. k < length (graph_of nodes))) same (all_within (graph_of nodes) i closed))

pub node_built : (nodes : List Node) (waiters waiters' : List (List ℕ)) (f f' : Frontier) (i n : ℕ) (node : Node) (ns : List ℕ) → Built (graph_of (take i nodes)) waiters f → i < length nodes → node ≡ get_or nodes i node → ns ≡ node.needs → n ≡ length node.needs → Sound f' → f'.counts.items ≡ f.counts.items ++ n ∷ [] → ((q : ℕ) → ready_at f' q ≡ ready_at f q + one_where (q == length f.counts.items && n == 0)) → ((k q : ℕ) → times q (waiters_at waiters' k) ≡ times q (waiters_at waiters k) + one_where (i == q) * times k ns) → Built (graph_of (take (i + 1) nodes)) waiters' f'
node_built nodes waiters waiters' f f' i n node ns b l is needs count sound counts more waits =
    let size : length (take i nodes) ≡ i = length-take-le i nodes (omega (arith, l)) in
    let longer : graph_of (take (i + 1) nodes) ≡ graph_of (take i nodes) ++ ns ∷ [] = ap graph_of (take_more nodes i node l ∙ ap (λ x. take i nodes ++ x ∷ []) (sym is)) ∙ map-append needs_list (take i nodes) (node ∷ []) ∙ ap (λ x. graph_of (take i nodes) ++ x ∷ []) (sym needs) in
    subst (λ g. Built g waiters' f') (sym longer) (built_more (graph_of (take i nodes)) ns waiters waiters' f f' i n b (sym size ∙ sym (graph_size (take i nodes))) (count ∙ sym (ap length needs)) sound counts more waits)

pub nodes_built : (nodes : List Node) (waiters : List (List ℕ)) (f : Frontier) (i : ℕ) → length nodes ≤ i → Built (graph_of (take i nodes)) waiters f → Tells (graph_of nodes) waiters f []
nodes_built nodes waiters f i past b = built_tells (graph_of nodes) waiters f (subst (λ xs. Built (graph_of xs) waiters f) (take_all i nodes past) b)
