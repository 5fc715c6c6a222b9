-- Laws on what is kept beside the marks.
use Rattle.std.proofs.Common.{◌≡◌, ℕ, ◌+◌, ◌≤◌, List, [], ◌∷◌, ◌++◌, length, refl, sym, ◌∙◌, ap, arith, Bool, true, false, not, ◌||◌}
use Rattle.std.proofs.lemmas.Grind.{common_steps}
use Rattle.cc_host.specs.declared.event.Status.{Status}
use Rattle.cc_host.specs.Status.{is_success}
use Rattle.cc_run.specs.declared.mark.Mark.{Mark}
use Rattle.cc_run.specs.declared.mark.Mark.TheVariants.{Began, Over}
use Rattle.cc_run.specs.Marks.{begins, has_failed}

pub begins_within : (marks : List Mark) → begins marks ≤ length marks
begins_within [] = omega arith
begins_within (Began p ∷ marks) = let i : begins marks ≤ length marks = begins_within marks in omega arith
begins_within (Over p status ∷ marks) = let i : begins marks ≤ length marks = begins_within marks in omega arith

pub begins_began : (marks : List Mark) (p : ℕ) → begins (marks ++ Began p ∷ []) ≡ begins marks + 1
begins_began [] p = refl
begins_began (Began q ∷ marks) p = let i : begins (marks ++ Began p ∷ []) ≡ begins marks + 1 = begins_began marks p in omega arith
begins_began (Over q status ∷ marks) p = begins_began marks p

pub begins_over : (marks : List Mark) (p : ℕ) (status : Status) → begins (marks ++ Over p status ∷ []) ≡ begins marks
begins_over [] p status = refl
begins_over (Began q ∷ marks) p status = let i : begins (marks ++ Over p status ∷ []) ≡ begins marks = begins_over marks p status in omega arith
begins_over (Over q state ∷ marks) p status = begins_over marks p status

pub failed_began : (marks : List Mark) (p : ℕ) → has_failed (marks ++ Began p ∷ []) ≡ has_failed marks
failed_began marks p = grind (arith, common_steps)

pub failed_over : (marks : List Mark) (p : ℕ) (status : Status) → has_failed (marks ++ Over p status ∷ []) ≡ (has_failed marks || not (is_success status))
failed_over marks p status = grind (arith, common_steps)
