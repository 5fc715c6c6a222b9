-- Lines that the program prints as an answer.
use Rattle.std.specs.Prelude.{ℕ, List, map}
use Rattle.cc_host.specs.Part.{Step}
use Rattle.cc_host.specs.Part.Step.{Prints}
use Rattle.cc_host.specs.declared.event.LineKind.TheVariants.{Shown}

-- these lines are printed as an answer of the program
abbrev pub shows : List (List ℕ) → List Step
shows = map (Prints Shown)
