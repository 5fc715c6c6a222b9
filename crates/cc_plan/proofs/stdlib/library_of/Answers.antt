use Rattle.std.proofs.Common.{◌∙◌, Some, refl, ap₂}
use Rattle.cc_plan.specs.Stdlib.{chosen, library_of}
use Rattle.cc_plan.proofs.PassBy.{by_done, by_ok}
use Rattle.cc_plan.proofs.stdlib.library_of.Goals as goal

pub returns-in-Ok : goal.returns-in-Ok
unfolding library_of
returns-in-Ok c = rw c.in-Ok.is (by_ok _ _ c.in_ok-uses-in-Ok.ensures refl (by_done (ap₂ (λ library warnings. chosen (Some library) warnings) (c.in_ok-library-in-Ok.ensures ∙ c.library_by.ensures) c.in_ok-warnings-in-Ok.ensures)))
