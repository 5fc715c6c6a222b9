-- Marks that follow a plan.
use Rattle.std.specs.Prelude.{◌≡◌, List, [], ◌∷◌, ◌++◌, Some, true, false}
use Rattle.cc_run.specs.declared.mark.Mark.{Mark}
use Rattle.cc_run.specs.declared.mark.Mark.TheVariants.{Began, Over}
use Rattle.cc_run.specs.Marks.{has_begun, has_ended}
use Rattle.cc_run.specs.Plan.{Plan, IsNext}

-- what begins comes next; what ends had begun, and ends once
abbrev pub Fitting : Plan → List Mark → Mark → Type 0
Fitting plan before (Began p) = IsNext plan before (Some p)
Fitting plan before (Over p status) = (has_begun before p ≡ true) × (has_ended before p ≡ false)

-- so does each mark, after those before it
abbrev pub Follows : Plan → List Mark → List Mark → Type 0
Follows plan before [] = Unit {0}
Follows plan before (m ∷ ms) = Fitting plan before m × Follows plan (before ++ m ∷ []) ms
