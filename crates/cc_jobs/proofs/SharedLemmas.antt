-- Each kind of step keeps the rule of a shared pool.
use Rattle.std.proofs.Common.{◌≡◌, ℕ, zero, suc, ◌+◌, ◌-◌, ◌%◌, ◌^◌, ◌<◌, ◌≤◌, eqb, List, [], ◌∷◌, ◌++◌, get_or, set, sym, refl, ap, ◌∙◌, subst, arith, inl, inr, ⊎_elim, ◌⊎◌}
use Rattle.std.specs.Prelude.{sum_by}
use Rattle.std.proofs.lemmas.List.Sums.{sum_by-cons, sum_by_push}
use mathlib.Core.Logic.{dite}
use mathlib.Core.Option.{none, some, some-injective, some-ne-none}
use native.Mathlib.Decide.{ℕ_discrete}
use lib.ListN.{get_elem?}
use prog.Atomic.{either}
use Rattle.atomic_table.specs.Table.{State, Me, step, Act, keeps, stepped, Valid, carried_after, Allows, Splits, Joins, Final, Seen}
use Rattle.atomic_table.proofs.Lists.{exchanged, at_set, at_snoc}
use Rattle.cc_jobs.specs.declared.sharing.SeatView.{SeatView}
use Rattle.cc_jobs.specs.Shared.{AllKnow, Balanced, fresh, spent, missed, seen, won, lost, gave, looked, traded, returned}

abbrev held_of : SeatView → ℕ
held_of v = v.held

held-set : (l : List SeatView) (i : ℕ) (v w : SeatView) → get_elem? l i ≡ some v → sum_by held_of (set l i w) + v.held ≡ sum_by held_of l + w.held
held-set [] i v w e = absurd (some-ne-none v (sym e))
held-set (x ∷ xs) zero v w e = let is : x.held ≡ v.held = ap held_of (some-injective x v e) in omega (arith, sum_by-cons held_of x xs, sum_by-cons held_of w xs)
held-set (x ∷ xs) (suc i) v w e = let r = held-set xs i v w e in omega (arith, sum_by-cons held_of x xs, sum_by-cons held_of x (set xs i w))

pub held-within : (l : List SeatView) (i : ℕ) (v : SeatView) → get_elem? l i ≡ some v → v.held ≤ sum_by held_of l
held-within [] i v e = absurd (some-ne-none v (sym e))
held-within (x ∷ xs) zero v e = let is : x.held ≡ v.held = ap held_of (some-injective x v e) in omega (arith, sum_by-cons held_of x xs)
held-within (x ∷ xs) (suc i) v e = let r = held-within xs i v e in omega (arith, sum_by-cons held_of x xs)

abbrev Mine : Type 0
Mine = Me (Unit {0}) SeatView

know-set : (total : ℕ) (l : List SeatView) (id : ℕ) (w : SeatView) → AllKnow total l → (w.total ≡ total) ⊎ (w.total ≡ 0) → AllKnow total (set l id w)
know-set total l id w all here i v e = ⊎_elim
    (λ t. let same : w.total ≡ v.total = ap (λ (x : SeatView). x.total) t.1 in ⊎_elim (λ h. inl (sym same ∙ h)) (λ h. inr (sym same ∙ h)) here)
    (λ t. all i v t.1) (at_set l id i w v e)

know-snoc : (total : ℕ) (l : List SeatView) (w : SeatView) → AllKnow total l → (w.total ≡ total) ⊎ (w.total ≡ 0) → AllKnow total (l ++ w ∷ [])
know-snoc total l w all here i v e = ⊎_elim
    (λ t. all i v t)
    (λ t. let same : w.total ≡ v.total = ap (λ (x : SeatView). x.total) t in ⊎_elim (λ h. inl (sym same ∙ h)) (λ h. inr (sym same ∙ h)) here) (at_snoc l w v i e)

placed : (total : ℕ) (s : State (Unit {0}) SeatView) (id m : ℕ) (me : Mine) (w : SeatView) → Balanced total s → get_elem? s.views id ≡ some me.0 → m + w.held ≡ get_or s.words 0 0 + me.0.held → w.total ≡ me.0.total
    → Balanced total (stepped s 0 m id me.1 w keeps)
placed total s id m me w r at e same =
    let sum_is = held-set s.views id me.0 w at in let is : get_or s.words 0 0 ≡ r.0 = ap (λ (ws : List ℕ). get_or ws 0 0) r.1 in let all = r.2 in
    (m, ap (λ (ws : List ℕ). set ws 0 m) r.1, omega arith, r.3, know-set total s.views id w r.4 (⊎_elim (λ h. inl (same ∙ h)) (λ h. inr (same ∙ h)) (r.4 id me.0 at)))

pub looks : (total slots id : ℕ) (me : Mine) → Allows (Balanced total) slots id me 0 (λ n. n) (looked (step slots 0 0 0 none) me)
looks total slots id me s r _ at _ = let x : ℕ = get_or s.words 0 0 in dite (ℕ_discrete x 0)
    (λ empty. (missed me.0, keeps, tt, placed total s id x me (missed me.0) r at refl refl, (inl (empty, refl), refl)))
    (λ not. (seen me.0 x, keeps, tt, placed total s id x me (seen me.0 x) r at refl refl, (inr (omega arith, refl), refl)))

pub trades : (total slots id : ℕ) (me : Mine) (old : ℕ) → 0 < old → me.0.saw ≡ old
    → Allows (Balanced total) slots id me 0 (λ n. either (eqb n old) (old - 1) n) (traded (step slots 0 old (old - 1) none) me)
trades total slots id me old some_left saw s r _ at _ = let x : ℕ = get_or s.words 0 0 in
    exchanged x old (old - 1) (λ n. (w : SeatView) × (a : Act (Unit {0})) × Valid s.homes me.1 a × Balanced total (stepped s 0 n id me.1 w a) × traded (step slots 0 old (old - 1) none) me x (w, carried_after me.1 a))
    (λ hit. (won me.0, keeps, tt, placed total s id (old - 1) me (won me.0) r at (omega arith) refl, (sym saw, (omega arith, inl (hit ∙ sym saw, refl)), refl)))
    (λ miss. (lost me.0, keeps, tt, placed total s id x me (lost me.0) r at refl refl, (sym saw, (omega arith, inr ((λ e. miss (e ∙ saw)), refl)), refl)))

pub returns : (total slots id : ℕ) (me : Mine) → 0 < me.0.held
    → Allows (Balanced total) slots id me 0 (λ n. (n + 1) % 2 ^ 64) (returned (step slots 0 1 0 none) me)
returns total slots id me holds s r _ at _ = let x : ℕ = get_or s.words 0 0 in
    let within = held-within s.views id me.0 at in let is : x ≡ r.0 = ap (λ (ws : List ℕ). get_or ws 0 0) r.1 in let all = r.2 in let small = r.3 in
    let fits : (x + 1) % 2 ^ 64 ≡ x + 1 = omega arith in
    (gave me.0, keeps, tt, subst (λ (n : ℕ). Balanced total (stepped s 0 n id me.1 (gave me.0) keeps)) (sym fits) (placed total s id (x + 1) me (gave me.0) r at (omega arith) refl), ((holds, refl), refl))

pub splits : (total id : ℕ) (v : SeatView) → Splits (Balanced total) id v v (fresh v.total)
splits total id v s r at =
    let sum_is = held-set s.views id v v at in let all = r.2 in
    (r.0, r.1, omega (arith, sum_by_push held_of (set s.views id v) (fresh v.total)), r.3, know-snoc total (set s.views id v) (fresh v.total) (know-set total s.views id v r.4 (r.4 id v at)) (r.4 id v at))

pub joins : (total id : ℕ) (v : SeatView) (other : ℕ) (w : SeatView) → w.held ≡ 0 → Joins (Balanced total) id v other w v spent
joins total id v other w empty s r at _ at' =
    let sum_is = held-set s.views id v v at in let sum_is' = held-set (set s.views id v) other w spent at' in let all = r.2 in
    (r.0, r.1, omega arith, r.3, know-set total (set s.views id v) other spent (know-set total s.views id v r.4 (r.4 id v at)) (inr refl))

pub at_most : (total id : ℕ) (v : SeatView) (ws : List ℕ) (xs : List (Unit {0})) (n : ℕ) → 1 ≤ v.total → Final (Seen (Balanced total) id v) ws xs → get_elem? ws 0 ≡ some n → n + v.held ≤ v.total
at_most total id v ws xs n live f at = let r = f.1.0 in let within = held-within f.0.views id v f.1.1 in let all = r.2 in
    let is : ws ≡ r.0 ∷ [] = sym f.2 ∙ r.1 in let same : r.0 ≡ n = some-injective _ _ (ap (λ (l : List ℕ). get_elem? l 0) (sym is) ∙ at) in let knows : v.total ≡ total = ⊎_elim (λ h. h) (λ h. absurd (omega arith)) (r.4 id v f.1.1) in omega arith
