-- Laws on the place that comes next, and on how many are left.
use Rattle.std.proofs.Common.{◌≡◌, ◌⊎◌, inl, inr, ℕ, zero, suc, ◌+◌, ◌<◌, ◌≤◌, List, [], ◌∷◌, ◌++◌, length, refl, sym, ◌∙◌, ap, subst, arith, Bool, true, false}
use Rattle.std.specs.Prelude.{Option, None, Some, if◌then◌else◌}
use Rattle.std.proofs.lemmas.Grind.{common_steps}
use Rattle.cc_host.specs.declared.event.Status.{Status}
use Rattle.cc_run.specs.declared.mark.Mark.{Mark}
use Rattle.cc_run.specs.declared.mark.Mark.TheVariants.{Began, Over}
use Rattle.cc_run.specs.Marks.{has_begun}
use Rattle.cc_run.specs.Plan.{Plan, may, IsLeast, IsFirst, IsNext, or_else, first_below, next_place, unbegun}

below_or_at : (p n : ℕ) → p < suc n → (p < n) ⊎ (p ≡ n)
below_or_at p n h = grind arith

first_none : (test : ℕ → Bool) (n : ℕ) → ((q : ℕ) → q < n → test q ≡ false) → first_below test n ≡ None
unfolding first_below
first_none test zero h = refl
first_none test (suc n) h =
    let a : first_below test n ≡ None = first_none test n (λ q l. h q (omega arith)) in
    let b : test n ≡ false = h n (omega arith) in
    cc

first_some : (test : ℕ → Bool) (n p : ℕ) → p < n → test p ≡ true → ((q : ℕ) → q < p → test q ≡ false) → first_below test n ≡ Some p
unfolding first_below
first_some test zero p l t h = absurd (omega arith)
first_some test (suc n) p l t h = elim (below_or_at p n l) [
  | inl b ↦ let a : first_below test n ≡ Some p = first_some test n p b t h in cc
  | inr e ↦
      let a : first_below test n ≡ None = first_none test n (λ q k. h q (omega arith)) in
      let b : test n ≡ true = ap test (sym e) ∙ t in
      cc
]

pub first_is : (test : ℕ → Bool) (n : ℕ) (o : Option ℕ) → IsFirst test n o → first_below test n ≡ o
first_is test n None h = first_none test n h
first_is test n (Some p) h = first_some test n p h.below h.holds h.least

-- what is first is the least
pub is_first : (test : ℕ → Bool) (n : ℕ) → IsFirst test n (first_below test n)
unfolding first_below
is_first test zero = λ q l. absurd (omega arith)
is_first test (suc n) = step (first_below test n) (is_first test n) (test n) refl
  where
    step : (o : Option ℕ) → IsFirst test n o → (b : Bool) → test n ≡ b → IsFirst test (suc n) (or_else o (if b then Some n else None))
    step (Some p) h b e = record { below = let l : p < n = h.below in omega arith; holds = h.holds; least = h.least }
    step None h true e = record { below = omega arith; holds = e; least = h }
    step None h false e = λ q l. elim (below_or_at q n l) [ inl k ↦ h q k | inr k ↦ ap test k ∙ e ]

pub next_is : (plan : Plan) (marks : List Mark) (o : Option ℕ) → IsNext plan marks o → next_place plan marks ≡ o
next_is plan marks o h = first_is (may plan marks) (length plan.cmds) o h

pub next_some : (plan : Plan) (marks : List Mark) (p : ℕ) → next_place plan marks ≡ Some p → IsLeast (may plan marks) (length plan.cmds) p
next_some plan marks p e = subst (IsFirst (may plan marks) (length plan.cmds)) e (is_first (may plan marks) (length plan.cmds))

pub next_none : (plan : Plan) (marks : List Mark) → next_place plan marks ≡ None → (q : ℕ) → q < length plan.cmds → may plan marks q ≡ false
next_none plan marks e = subst (IsFirst (may plan marks) (length plan.cmds)) e (is_first (may plan marks) (length plan.cmds))

-- what may be started was not begun
pub may_begun : (plan : Plan) (marks : List Mark) (p : ℕ) → may plan marks p ≡ true → has_begun marks p ≡ false
may_begun plan marks p h = grind (arith, common_steps)

pub may_allows : (plan : Plan) (marks : List Mark) (p : ℕ) → may plan marks p ≡ true → plan.allows marks p ≡ true
may_allows plan marks p h = grind (arith, common_steps)

-- a place that is begun was not, and others stay
unbegun_above : (n p : ℕ) (marks : List Mark) → n ≤ p → unbegun n (marks ++ Began p ∷ []) ≡ unbegun n marks
unfolding unbegun
unbegun_above zero p marks h = refl
unbegun_above (suc n) p marks h =
    let i : unbegun n (marks ++ Began p ∷ []) ≡ unbegun n marks = unbegun_above n p marks (omega arith) in
    let e : has_begun (marks ++ Began p ∷ []) n ≡ has_begun marks n = grind (arith, common_steps) in
    cc

pub unbegun_begin : (n p : ℕ) (marks : List Mark) → p < n → has_begun marks p ≡ false → unbegun n (marks ++ Began p ∷ []) + 1 ≡ unbegun n marks
unfolding unbegun
unbegun_begin zero p marks l h = absurd (omega arith)
unbegun_begin (suc n) p marks l h = elim (below_or_at p n l) [
  | inl k ↦
      let i : unbegun n (marks ++ Began p ∷ []) + 1 ≡ unbegun n marks = unbegun_begin n p marks k h in
      let e : has_begun (marks ++ Began p ∷ []) n ≡ has_begun marks n = grind (arith, common_steps) in
      grind (arith, common_steps)
  | inr k ↦
      let i : unbegun n (marks ++ Began p ∷ []) ≡ unbegun n marks = unbegun_above n p marks (omega arith) in
      let e : has_begun (marks ++ Began p ∷ []) n ≡ true = grind (arith, common_steps) in
      let f : has_begun marks n ≡ false = ap (has_begun marks) (sym k) ∙ h in
      grind (arith, common_steps)
]

pub unbegun_none : (n : ℕ) → unbegun n [] ≡ n
unfolding unbegun
unbegun_none zero = refl
unbegun_none (suc n) = let i : unbegun n [] ≡ n = unbegun_none n in grind (arith, common_steps)

-- an end leaves them
pub unbegun_over : (n : ℕ) (marks : List Mark) (p : ℕ) (status : Status) → unbegun n (marks ++ Over p status ∷ []) ≡ unbegun n marks
unfolding unbegun
unbegun_over zero marks p status = refl
unbegun_over (suc n) marks p status =
    let i : unbegun n (marks ++ Over p status ∷ []) ≡ unbegun n marks = unbegun_over n marks p status in
    let e : has_begun (marks ++ Over p status ∷ []) n ≡ has_begun marks n = grind (arith, common_steps) in
    cc
