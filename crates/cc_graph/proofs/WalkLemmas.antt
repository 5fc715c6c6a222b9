-- What each step of a walk keeps, and that less is left to be done behind it.
use Rattle.std.proofs.Common.{◌≡◌, inl, inr, ℕ, suc, zero, ◌+◌, ◌-◌, ◌<◌, ◌≤◌, List, [], ◌∷◌, ◌++◌, length, get_or, set, take, drop, replicate, true, false, Some, None, slice_get, refl, sym, ◌∙◌, ap, subst, arith, add-zero, append_assoc, append-nil, length-set, length-drop, get_or-set_same, get_or-set_other, get_or-take, get_or-drop, length-take-le, take_all}
use Rattle.std.specs.List.{list_all}
use Rattle.std.proofs.lemmas.Bool.{and_from, cases_eq, false≢true, true≢false}
use Rattle.std.proofs.lemmas.List.{length_push, get_or_push, get_or_append_left, get_or_default, length-replicate}
use Rattle.std.proofs.lemmas.List.Folds.{list_all_more}
use Rattle.std.proofs.lemmas.Option.{slice_get_within, get_or_from_slice_get}
use Rattle.cc_graph.specs.Graph.{Graph, needs_of, among, are_apart, is_ring, Follows, IsOrder, IsCycle}
use Rattle.cc_graph.specs.Walk.{is_new, is_done, depth_of, next_of, mark_in, left, work, Keeps, IsTurned}
use Rattle.cc_graph.specs.declared.walk.Mark.{Mark}
use Rattle.cc_graph.specs.declared.walk.Mark.TheVariants.{New, Open, Done}
use Rattle.cc_graph.proofs.GraphLemmas.{all_more, among_last, among_other}
use Rattle.cc_graph.proofs.CycleLemmas.{turned_cycle, leads_by, apart_by}

-- ---- marks

new_undone : (m : Mark) → is_new m ≡ true → is_done m ≡ false
new_undone New h = refl
new_undone (Open at next) h = refl
new_undone Done h = absurd (false≢true h)

new_nowhere : (m : Mark) (i : ℕ) → is_new m ≡ true → depth_of m ≡ Some i → ⊥
new_nowhere New i h d = cc
new_nowhere (Open at next) i h d = false≢true h
new_nowhere Done i h d = cc

placed_entered : (m : Mark) (i : ℕ) → depth_of m ≡ Some i → is_new m ≡ false
placed_entered New i d = absurd (cc)
placed_entered (Open at next) i d = refl
placed_entered Done i d = refl

new_is : (m : Mark) → is_new m ≡ true → m ≡ New
new_is New h = refl
new_is (Open at next) h = absurd (false≢true h)
new_is Done h = absurd (false≢true h)

-- one that is neither new nor open is done
done_else : (m : Mark) → is_new m ≡ false → ((i : ℕ) → depth_of m ≡ Some i → ⊥) → is_done m ≡ true
done_else New h none = absurd (true≢false h)
done_else (Open at next) h none = absurd (none at refl)
done_else Done h none = refl

-- an open place has something left to be done
open_left : (count : ℕ) (m : Mark) (i : ℕ) → depth_of m ≡ Some i → 0 < left count m
open_left count New i d = absurd (cc)
open_left count (Open at next) i d = omega arith
open_left count Done i d = absurd (cc)

placed_undone : (m : Mark) (i : ℕ) → depth_of m ≡ Some i → is_done m ≡ false
placed_undone New i d = refl
placed_undone (Open at next) i d = refl
placed_undone Done i d = absurd (cc)

-- a mark that was changed, and the others
here : (marks : List Mark) (place : ℕ) (m : Mark) (k : ℕ) → k ≡ place → place < length marks → mark_in (set marks place m) k ≡ m
here marks place m k e l = ap (mark_in (set marks place m)) e ∙ get_or-set_same marks place m New l

others : (marks : List Mark) (place : ℕ) (m : Mark) (k : ℕ) → (k ≡ place → ⊥) → mark_in (set marks place m) k ≡ mark_in marks k
others marks place m k apart = get_or-set_other marks place k m New apart

-- a mark that was read
pub mark_is : (marks : List Mark) (place : ℕ) (m : Mark) → place < length marks → m ≡ get_or marks place m → mark_in marks place ≡ m
mark_is marks place m l e = get_or_default marks place New m l ∙ sym e

-- ---- what is left to be done

pub work_less : (g : Graph) (marks : List Mark) (place : ℕ) (m : Mark) → length marks ≡ length g → place < length g → left (length (needs_of g place)) m < left (length (needs_of g place)) (mark_in marks place) → work g (set marks place m) < work g marks
work_less [] marks place m e l h = absurd (omega arith)
work_less (ns ∷ g) [] place m e l h = absurd (let k : zero ≡ suc (length g) = e in cc)
work_less (ns ∷ g) (n ∷ ms) zero m e l h = omega arith
work_less (ns ∷ g) (n ∷ ms) (suc place) m e l h =
    let rest : work g (set ms place m) < work g ms = work_less g ms place m (omega arith) (omega arith) h in
    omega arith

-- ---- the order

follows_push : (g : Graph) (before ps : List ℕ) (p : ℕ) → Follows g before ps → p < length g → list_all (among (before ++ ps)) (needs_of g p) ≡ true → among (before ++ ps) p ≡ false → Follows g before (ps ++ p ∷ [])
follows_push g before [] p f l n m = (l, subst (λ (b : List ℕ). list_all (among b) (needs_of g p) ≡ true) (append-nil before) n, subst (λ (b : List ℕ). among b p ≡ false) (append-nil before) m, tt)
follows_push g before (q ∷ ps) p f l n m =
    let same = sym (append_assoc before (q ∷ []) ps) in
    (f.0, f.1, f.2, follows_push g (before ++ q ∷ []) ps p f.3 l (subst (λ (b : List ℕ). list_all (among b) (needs_of g p) ≡ true) same n) (subst (λ (b : List ℕ). among b p ≡ false) same m))

-- ---- before the walk

fresh_mark : (n k : ℕ) → mark_in (replicate n New) k ≡ New
fresh_mark zero k = refl
fresh_mark (suc n) zero = refl
fresh_mark (suc n) (suc k) = fresh_mark n k

pub fresh : (g : Graph) (marks : List Mark) (path order : List ℕ) → marks ≡ replicate (length g) New → path ≡ [] → order ≡ [] → Keeps g marks path order 0
fresh g marks path order m p o =
    let is : (k : ℕ) → mark_in marks k ≡ New = λ k. ap (λ (ms : List Mark). mark_in ms k) m ∙ fresh_mark (length g) k in
    let none : length path ≡ 0 = ap length p in
    record {
      sizes = ap length m ∙ length-replicate (length g) New;
      entered = λ k l. absurd (omega arith);
      placed = λ k i d. absurd (let e : depth_of New ≡ Some i = sym (ap depth_of (is k)) ∙ d in cc);
      opened = λ i l. absurd (omega (arith, none, l));
      linked = λ i j e l. absurd (omega (arith, none, l));
      passed = λ k. ap (λ (m : Mark). list_all (among order) (take (next_of m) (needs_of g k))) (is k);
      known = λ k. ap (λ (ps : List ℕ). among ps k) o ∙ sym (ap is_done (is k));
      follows = subst (Follows g []) (sym o) tt;
    }

-- ---- the steps

-- the last place of a path
abbrev pub top_of : List ℕ → ℕ
top_of path = get_or path (length path - 1) 0

module _ (g : Graph) (marks : List Mark) (path order : List ℕ) (begun : ℕ) (keeps : Keeps g marks path order begun) where
  -- a place was begun with that was entered
  pub begun_more : is_new (mark_in marks begun) ≡ false → Keeps g marks path order (begun + 1)
  begun_more h = record {
    sizes = keeps.sizes;
    entered = λ k l. elim (cases_eq k begun) [ inl e ↦ ap (λ (i : ℕ). is_new (mark_in marks i)) e ∙ h | inr apart ↦ keeps.entered k (omega (arith, l, apart)) ];
    placed = keeps.placed;
    opened = keeps.opened;
    linked = keeps.linked;
    passed = keeps.passed;
    known = keeps.known;
    follows = keeps.follows;
  }

  -- a new place was entered, which the last one needs
  pub entering : (place : ℕ) → place < length g → is_new (mark_in marks place) ≡ true → (0 < length path → among (needs_of g (top_of path)) place ≡ true) → Keeps g (set marks place (Open (length path) 0)) (path ++ place ∷ []) order begun
  entering place l new next =
      let now : Mark = Open (length path) 0 in
      let within : place < length marks = omega (arith, keeps.sizes, l) in
      let more : length (path ++ place ∷ []) ≡ length path + 1 = length_push path place in
      let inner : (i : ℕ) → i < length path → get_or (path ++ place ∷ []) i 0 ≡ get_or path i 0 = λ i b. get_or_append_left path (place ∷ []) 0 i b in
      let last : (i : ℕ) → i ≡ length path → get_or (path ++ place ∷ []) i 0 ≡ place = λ i e. get_or_push path place 0 i (sym e) in
      record {
        sizes = length-set marks place now ∙ keeps.sizes;
        entered = λ k b. elim (cases_eq k place) [ inl e ↦ ap is_new (here marks place now k e within) | inr apart ↦ ap is_new (others marks place now k apart) ∙ keeps.entered k b ];
        placed = λ k i d. elim (cases_eq k place) [
          | inl e ↦
              let at : i ≡ length path = let f : Some (length path) ≡ Some i = sym (ap depth_of (here marks place now k e within)) ∙ d in cc in
              (omega (arith, more, at), last i at ∙ sym e)
          | inr apart ↦
              let old = keeps.placed k i (sym (ap depth_of (others marks place now k apart)) ∙ d) in
              (omega (arith, more, old.0), inner i old.0 ∙ old.1)
        ];
        opened = λ i b. elim (cases_eq i (length path)) [
          | inl e ↦ (subst (λ (n : ℕ). n < length g) (sym (last i e)) l, ap depth_of (here marks place now (get_or (path ++ place ∷ []) i 0) (last i e) within) ∙ ap Some (sym e))
          | inr apart ↦
              let inside : i < length path = omega (arith, more, b, apart) in
              let old = keeps.opened i inside in
              let not_new : get_or (path ++ place ∷ []) i 0 ≡ place → ⊥ = λ e. new_nowhere (mark_in marks place) i new (sym (ap (λ (k : ℕ). depth_of (mark_in marks k)) (sym (inner i inside) ∙ e)) ∙ old.1) in
              (subst (λ (n : ℕ). n < length g) (sym (inner i inside)) old.0, ap depth_of (others marks place now (get_or (path ++ place ∷ []) i 0) not_new) ∙ ap (λ (k : ℕ). depth_of (mark_in marks k)) (inner i inside) ∙ old.1)
        ];
        linked = λ i j e b. elim (cases_eq j (length path)) [
          | inl at ↦
              let some : 0 < length path = omega (arith, e, at) in
              let before : i ≡ length path - 1 = omega (arith, e, at) in
              let a : get_or (path ++ place ∷ []) i 0 ≡ top_of path = inner i (omega (arith, e, at)) ∙ ap (λ (n : ℕ). get_or path n 0) before in
              let z : get_or (path ++ place ∷ []) j 0 ≡ place = last j at in
              rw (a, z) (next some)
          | inr apart ↦
              let inside : j < length path = omega (arith, more, b, apart) in
              let a : get_or (path ++ place ∷ []) i 0 ≡ get_or path i 0 = inner i (omega (arith, e, inside)) in
              let z : get_or (path ++ place ∷ []) j 0 ≡ get_or path j 0 = inner j inside in
              rw (a, z) (keeps.linked i j e inside)
        ];
        passed = λ k. elim (cases_eq k place) [
          | inl e ↦ ap (λ (m : Mark). list_all (among order) (take (next_of m) (needs_of g k))) (here marks place now k e within)
          | inr apart ↦ ap (λ (m : Mark). list_all (among order) (take (next_of m) (needs_of g k))) (others marks place now k apart) ∙ keeps.passed k
        ];
        known = λ k. elim (cases_eq k place) [
          | inl e ↦ keeps.known k ∙ ap (λ (i : ℕ). is_done (mark_in marks i)) e ∙ new_undone (mark_in marks place) new ∙ sym (ap is_done (here marks place now k e within))
          | inr apart ↦ keeps.known k ∙ sym (ap is_done (others marks place now k apart))
        ];
        follows = keeps.follows;
      }

  -- one need more of a place is left behind, which stands in the order
  pub passing : (place at next need : ℕ) → place < length g → mark_in marks place ≡ Open at next → slice_get (needs_of g place) next ≡ Some need → among order need ≡ true → Keeps g (set marks place (Open at (next + 1))) path order begun
  passing place at next need l is found stands =
      let now : Mark = Open at (next + 1) in
      let within : place < length marks = omega (arith, keeps.sizes, l) in
      let same : (k : ℕ) → depth_of (mark_in (set marks place now) k) ≡ depth_of (mark_in marks k) = λ k. elim (cases_eq k place) [
        | inl e ↦ ap depth_of (here marks place now k e within) ∙ sym (ap depth_of (ap (mark_in marks) e ∙ is))
        | inr apart ↦ ap depth_of (others marks place now k apart)
      ] in
      let inside : next < length (needs_of g place) = slice_get_within (needs_of g place) next need found in
      let so_far : list_all (among order) (take next (needs_of g place)) ≡ true = sym (ap (λ (m : Mark). list_all (among order) (take (next_of m) (needs_of g place))) is) ∙ keeps.passed place in
      let it : among order (get_or (needs_of g place) next 0) ≡ true = ap (among order) (get_or_from_slice_get (needs_of g place) next need 0 found) ∙ stands in
      record {
        sizes = length-set marks place now ∙ keeps.sizes;
        entered = λ k b. elim (cases_eq k place) [ inl e ↦ ap is_new (here marks place now k e within) | inr apart ↦ ap is_new (others marks place now k apart) ∙ keeps.entered k b ];
        placed = λ k i d. keeps.placed k i (sym (same k) ∙ d);
        opened = λ i b. let old = keeps.opened i b in (old.0, same (get_or path i 0) ∙ old.1);
        linked = keeps.linked;
        passed = λ k. elim (cases_eq k place) [
          | inl e ↦
              ap (λ (m : Mark). list_all (among order) (take (next_of m) (needs_of g k))) (here marks place now k e within)
              ∙ ap (λ (i : ℕ). list_all (among order) (take (next + 1) (needs_of g i))) e
              ∙ list_all_more (among order) (needs_of g place) next 0 inside
              ∙ and_from (list_all (among order) (take next (needs_of g place))) (among order (get_or (needs_of g place) next 0)) so_far it
          | inr apart ↦ ap (λ (m : Mark). list_all (among order) (take (next_of m) (needs_of g k))) (others marks place now k apart) ∙ keeps.passed k
        ];
        known = λ k. elim (cases_eq k place) [
          | inl e ↦ keeps.known k ∙ ap is_done (ap (mark_in marks) e ∙ is) ∙ sym (ap is_done (here marks place now k e within))
          | inr apart ↦ keeps.known k ∙ sym (ap is_done (others marks place now k apart))
        ];
        follows = keeps.follows;
      }

  -- the last place of the path is put in the order
  pub leaving : (place : ℕ) → 0 < length path → top_of path ≡ place → length (needs_of g place) ≤ next_of (mark_in marks place) → Keeps g (set marks place Done) (take (length path - 1) path) (order ++ place ∷ []) begun
  leaving place some is behind =
      let last : length path - 1 < length path = omega (arith, some) in
      let old = keeps.opened (length path - 1) last in
      let l : place < length g = subst (λ (n : ℕ). n < length g) is old.0 in
      let depth : depth_of (mark_in marks place) ≡ Some (length path - 1) = subst (λ (n : ℕ). depth_of (mark_in marks n) ≡ Some (length path - 1)) is old.1 in
      let within : place < length marks = omega (arith, keeps.sizes, l) in
      let size : length (take (length path - 1) path) ≡ length path - 1 = length-take-le (length path - 1) path (omega arith) in
      let inner : (i : ℕ) → i < length path - 1 → get_or (take (length path - 1) path) i 0 ≡ get_or path i 0 = λ i b. get_or-take (length path - 1) path i 0 b in
      let whole : list_all (among order) (needs_of g place) ≡ true = sym (ap (list_all (among order)) (take_all (next_of (mark_in marks place)) (needs_of g place) behind)) ∙ keeps.passed place in
      let absent : among order place ≡ false = keeps.known place ∙ placed_undone (mark_in marks place) (length path - 1) depth in
      record {
        sizes = length-set marks place Done ∙ keeps.sizes;
        entered = λ k b. elim (cases_eq k place) [ inl e ↦ ap is_new (here marks place Done k e within) | inr apart ↦ ap is_new (others marks place Done k apart) ∙ keeps.entered k b ];
        placed = λ k i d. elim (cases_eq k place) [
          | inl e ↦ absurd (let f : None ≡ Some i = sym (ap depth_of (here marks place Done k e within)) ∙ d in cc)
          | inr apart ↦
              let was = keeps.placed k i (sym (ap depth_of (others marks place Done k apart)) ∙ d) in
              let not_last : i ≡ length path - 1 → ⊥ = λ e. apart (sym was.1 ∙ ap (λ (n : ℕ). get_or path n 0) e ∙ is) in
              let less : i < length path - 1 = omega (arith, was.0, not_last) in
              (omega (arith, size, less), inner i less ∙ was.1)
        ];
        opened = λ i b.
            let less : i < length path - 1 = omega (arith, size, b) in
            let was = keeps.opened i (omega (arith, less)) in
            let not_it : get_or (take (length path - 1) path) i 0 ≡ place → ⊥ = λ e.
            let f : Some i ≡ Some (length path - 1) = sym was.1 ∙ ap (λ (k : ℕ). depth_of (mark_in marks k)) (sym (inner i less) ∙ e) ∙ depth in
            let same : i ≡ length path - 1 = cc in
            omega (arith, same, less) in
            (subst (λ (n : ℕ). n < length g) (sym (inner i less)) was.0, ap depth_of (others marks place Done (get_or (take (length path - 1) path) i 0) not_it) ∙ ap (λ (k : ℕ). depth_of (mark_in marks k)) (inner i less) ∙ was.1);
        linked = λ i j e b.
            let less : j < length path - 1 = omega (arith, size, b) in
            let a : get_or (take (length path - 1) path) i 0 ≡ get_or path i 0 = inner i (omega (arith, e, less)) in
            let z : get_or (take (length path - 1) path) j 0 ≡ get_or path j 0 = inner j less in
            rw (a, z) (keeps.linked i j e (omega (arith, less)));
        passed = λ k. elim (cases_eq k place) [
          | inl e ↦ ap (λ (m : Mark). list_all (among (order ++ place ∷ [])) (take (next_of m) (needs_of g k))) (here marks place Done k e within)
          | inr apart ↦
              ap (λ (m : Mark). list_all (among (order ++ place ∷ [])) (take (next_of m) (needs_of g k))) (others marks place Done k apart)
              ∙ all_more order (place ∷ []) (take (next_of (mark_in marks k)) (needs_of g k)) (keeps.passed k)
        ];
        known = λ k. elim (cases_eq k place) [
          | inl e ↦ ap (among (order ++ place ∷ [])) e ∙ among_last order place ∙ sym (ap is_done (here marks place Done k e within))
          | inr apart ↦ among_other order place k apart ∙ keeps.known k ∙ sym (ap is_done (others marks place Done k apart))
        ];
        follows = follows_push g [] order place keeps.follows l whole absent;
      }

  -- ---- less is left to be done

  pub entering_less : (place : ℕ) → place < length g → is_new (mark_in marks place) ≡ true → work g (set marks place (Open (length path) 0)) < work g marks
  entering_less place l new =
      work_less g marks place (Open (length path) 0) keeps.sizes l (let e = new_is (mark_in marks place) new in rw e (omega arith))

  pub passing_less : (place at next need : ℕ) → place < length g → mark_in marks place ≡ Open at next → slice_get (needs_of g place) next ≡ Some need → work g (set marks place (Open at (next + 1))) < work g marks
  passing_less place at next need l is found =
      let inside : next < length (needs_of g place) = slice_get_within (needs_of g place) next need found in
      work_less g marks place (Open at (next + 1)) keeps.sizes l (rw is (omega (arith, inside)))

  -- the last place of the path is open
  pub top_open : (place : ℕ) → 0 < length path → top_of path ≡ place → (place < length g) × (depth_of (mark_in marks place) ≡ Some (length path - 1))
  top_open place some is =
      let last : length path - 1 < length path = omega (arith, some) in
      let old = keeps.opened (length path - 1) last in
      (subst (λ (n : ℕ). n < length g) is old.0, subst (λ (n : ℕ). depth_of (mark_in marks n) ≡ Some (length path - 1)) is old.1)

  pub leaving_less : (place : ℕ) → 0 < length path → top_of path ≡ place → work g (set marks place Done) < work g marks
  leaving_less place some is =
      let top = top_open place some is in
      work_less g marks place Done keeps.sizes top.0 (open_left (length (needs_of g place)) (mark_in marks place) (length path - 1) top.1)

  -- ---- the end

  pub finished : path ≡ [] → begun ≡ length g → IsOrder g order
  finished none all = record {
    follows = keeps.follows;
    whole = λ k l.
        let size : length path ≡ 0 = ap length none in
        let nowhere : (i : ℕ) → depth_of (mark_in marks k) ≡ Some i → ⊥ = λ i d. let at = (keeps.placed k i d).0 in omega (arith, size, at) in
        keeps.known k ∙ done_else (mark_in marks k) (keeps.entered k (omega (arith, all, l))) nowhere;
  }

  -- ---- a cycle

  -- two places of the path are never the same
  pub path_apart : (i j : ℕ) → i < j → j < length path → get_or path i 0 ≡ get_or path j 0 → ⊥
  path_apart i j less l e =
      let f : Some i ≡ Some j = sym (keeps.opened i (omega (arith, less, l))).1 ∙ ap (λ (k : ℕ). depth_of (mark_in marks k)) e ∙ (keeps.opened j l).1 in
      let same : i ≡ j = cc in
      omega (arith, same, less)

  -- the path from a place on that its last one needs
  pub closing : (at : ℕ) (cycle : List ℕ) → at < length path → among (needs_of g (top_of path)) (get_or path at 0) ≡ true → IsTurned (drop at path) cycle → IsCycle g cycle
  closing at cycle l back t = turned_cycle g (drop at path) cycle apart ring t
    where
      size : length (drop at path) ≡ length path - at
      size = length-drop at path

      apart : are_apart (drop at path) ≡ true
      apart = apart_by (drop at path) (λ i j less b e. path_apart (at + i) (at + j) (omega (arith, less)) (omega (arith, size, b)) (sym (get_or-drop at path i 0) ∙ e ∙ get_or-drop at path j 0))

      ring_of : (ps : List ℕ) → drop at path ≡ ps → is_ring g ps ≡ true
      ring_of [] e = absurd (let none : length (drop at path) ≡ 0 = ap length e in omega (arith, size, none, l))
      ring_of (p ∷ ps) e =
          let count : length path - at ≡ suc (length ps) = sym size ∙ ap length e in
          let here : (i : ℕ) → get_or (p ∷ ps) i 0 ≡ get_or path (at + i) 0 = λ i. sym (ap (λ (l : List ℕ). get_or l i 0) e) ∙ get_or-drop at path i 0 in
          leads_by g p ps p
          (λ i j n b. let a = here i in let z = here j in rw (a, z) (keeps.linked (at + i) (at + j) (omega (arith, n)) (omega (arith, count, b))))
          (let a : get_or (p ∷ ps) (length ps) 0 ≡ top_of path = here (length ps) ∙ ap (λ (n : ℕ). get_or path n 0) (omega (arith, count)) in
          let z : p ≡ get_or path at 0 = here 0 ∙ ap (λ (n : ℕ). get_or path n 0) (add-zero at) in
          ap (λ (n : ℕ). among (needs_of g n) p) a ∙ ap (among (needs_of g (top_of path))) z ∙ back)

      ring : is_ring g (drop at path) ≡ true
      ring = ring_of (drop at path) refl
