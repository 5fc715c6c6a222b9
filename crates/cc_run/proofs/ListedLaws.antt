-- Laws on a list as a queue.
use Rattle.std.proofs.Common.{◌≡◌, ◌⊎◌, inl, inr, ℕ, ◌+◌, ◌<◌, ◌≤◌, List, [], ◌∷◌, ◌++◌, length, refl, sym, ◌∙◌, ap, subst, arith, Bool, true, false, not, ◌&&◌, ◌||◌}
use Rattle.std.specs.Prelude.{None, Some}
use Rattle.std.proofs.lemmas.Grind.{common_steps}
use Rattle.cc_host.specs.declared.event.Status.{Status}
use Rattle.cc_host.specs.Status.{is_success}
use Rattle.cc_run.specs.declared.mark.Mark.{Mark}
use Rattle.cc_run.specs.declared.mark.Mark.TheVariants.{Began, Over}
use Rattle.cc_run.specs.declared.planned.Planned.{Planned}
use Rattle.cc_run.specs.Marks.{has_begun, has_failed, begins}
use Rattle.cc_run.specs.Plan.{may, IsNext}
use Rattle.cc_run.proofs.Firsts.{may_begun}
use Rattle.cc_run.proofs.MarkLemmas.{begins_began, begins_over}
use Rattle.cc_run.specs.Listed.{listed_plan, BeganBelow, StandsAt}

pub may_of : (b h : Bool) → b ≡ false → h ≡ false → (not b && not h) ≡ true
may_of false false x y = refl
may_of true h x y = cc
may_of false true x y = cc

may_begun_no : (b h : Bool) → b ≡ true → (not b && h) ≡ false
may_begun_no true h x = refl
may_begun_no false h x = cc

pub may_halted_no : (b h : Bool) → h ≡ true → (not b && not h) ≡ false
may_halted_no true true x = refl
may_halted_no false true x = refl
may_halted_no true false x = cc
may_halted_no false false x = cc

pub next_some_listed : (stop failed : Bool) (cmds : List Planned) (n : ℕ) (marks : List Mark) → StandsAt n failed marks → (stop && failed) ≡ false → n < length cmds → IsNext (listed_plan stop cmds) marks (Some n)
next_some_listed stop failed cmds n marks at go lt = record {
  below = lt;
  holds = may_of (has_begun marks n) (stop && has_failed marks) (at.began.no n (omega arith)) (ap (λ f. stop && f) (sym at.failed_is) ∙ go);
  least = λ q l. may_begun_no (has_begun marks q) (not (stop && has_failed marks)) (at.began.yes q l);
}

pub next_none_listed : (stop failed : Bool) (cmds : List Planned) (n : ℕ) (marks : List Mark) → StandsAt n failed marks → ((stop && failed) ≡ true) ⊎ (length cmds ≤ n) → IsNext (listed_plan stop cmds) marks None
next_none_listed stop failed cmds n marks at (inl halt) = λ q l. may_halted_no (has_begun marks q) (stop && has_failed marks) (ap (λ f. stop && f) (sym at.failed_is) ∙ halt)
next_none_listed stop failed cmds n marks at (inr le) = λ q l. may_begun_no (has_begun marks q) (not (stop && has_failed marks)) (at.began.yes q (omega arith))

pub halted_no : (stop : Bool) (cmds : List Planned) (marks : List Mark) (p : ℕ) → may (listed_plan stop cmds) marks p ≡ true → (stop && has_failed marks) ≡ false
halted_no stop cmds marks p h = grind (arith, common_steps)

-- the next of a list is the one after those that began
pub place_is : (stop failed : Bool) (cmds : List Planned) (n : ℕ) (marks : List Mark) (p : ℕ) → BeganBelow n marks → IsNext (listed_plan stop cmds) marks (Some p) → p ≡ n
place_is stop failed cmds n marks p began next =
    let up : p < n → ⊥ = λ l. let y : has_begun marks p ≡ true = began.yes p l in let z : has_begun marks p ≡ false = may_begun (listed_plan stop cmds) marks p next.holds in cc in
    let down : n < p → ⊥ = λ l.
    let y : may (listed_plan stop cmds) marks n ≡ false = next.least n l in
    let z : may (listed_plan stop cmds) marks n ≡ true = may_of (has_begun marks n) (stop && has_failed marks) (began.no n (omega arith)) (halted_no stop cmds marks p next.holds) in
    cc in
    omega arith

pub begun_more : (n : ℕ) (marks : List Mark) → BeganBelow n marks → BeganBelow (n + 1) (marks ++ Began n ∷ [])
begun_more n marks b = record {
  yes = λ q l. elim (split q l) [
    | inl k ↦ let y : has_begun marks q ≡ true = b.yes q k in grind (arith, common_steps)
    | inr e ↦ grind (arith, common_steps)
  ];
  no = λ q l. let y : has_begun marks q ≡ false = b.no q (omega arith) in let z : q ≡ n → ⊥ = λ e. omega arith in grind (arith, common_steps);
}
  where
    split : (q : ℕ) → q < n + 1 → (q < n) ⊎ (q ≡ n)
    split q l = grind arith

pub begun_same : (n : ℕ) (marks : List Mark) (p : ℕ) (status : Status) → BeganBelow n marks → BeganBelow n (marks ++ Over p status ∷ [])
begun_same n marks p status b = record {
  yes = λ q l. let y : has_begun marks q ≡ true = b.yes q l in grind (arith, common_steps);
  no = λ q l. let y : has_begun marks q ≡ false = b.no q l in grind (arith, common_steps);
}

pub begin_listed : (stop failed : Bool) (cmds : List Planned) (n n' : ℕ) (marks : List Mark) (p : ℕ) → StandsAt n failed marks → IsNext (listed_plan stop cmds) marks (Some p) → (n < length cmds → n' ≡ n + 1) → StandsAt n' failed (marks ++ Began p ∷ [])
begin_listed stop failed cmds n n' marks p at next more =
    let e : p ≡ n = place_is stop failed cmds n marks p at.began next in
    let f : n' ≡ n + 1 = more (let l : p < length cmds = next.below in omega arith) in
    record {
      began = subst (λ k. BeganBelow n' (marks ++ Began k ∷ [])) (sym e) (subst (λ k. BeganBelow k (marks ++ Began n ∷ [])) (sym f) (begun_more n marks at.began));
      begun_is = f ∙ (let h : n ≡ begins marks = at.begun_is in let k : begins (marks ++ Began p ∷ []) ≡ begins marks + 1 = begins_began marks p in omega arith);
      failed_is = let h : failed ≡ has_failed marks = at.failed_is in grind (arith, common_steps);
    }

pub end_listed : (failed failed' : Bool) (n : ℕ) (marks : List Mark) (p : ℕ) (status : Status) → StandsAt n failed marks → failed' ≡ (failed || not (is_success status)) → StandsAt n failed' (marks ++ Over p status ∷ [])
end_listed failed failed' n marks p status at e = record {
  began = begun_same n marks p status at.began;
  begun_is = at.begun_is ∙ sym (begins_over marks p status);
  failed_is = let h : failed ≡ has_failed marks = at.failed_is in grind (arith, common_steps);
}

pub listed_fresh : StandsAt 0 false []
listed_fresh = record { began = record { yes = λ q l. absurd (omega arith); no = λ q l. refl }; begun_is = refl; failed_is = refl }

-- a list that stands where its run does
pub stands_by : (n : ℕ) (failed : Bool) (marks : List Mark) → n ≡ begins marks → failed ≡ has_failed marks → BeganBelow (begins marks) marks → StandsAt n failed marks
stands_by n failed marks e f b = record { began = subst (λ k. BeganBelow k marks) (sym e) b; begun_is = e; failed_is = f }

pub listed_by : (n : ℕ) (failed : Bool) (marks : List Mark) → StandsAt n failed marks → BeganBelow (begins marks) marks
listed_by n failed marks at = subst (λ k. BeganBelow k marks) at.begun_is at.began
