-- Added objects: those that were compiled elsewhere. None may be the library, which is removed before its members are
-- read.
use Rattle.std.specs.Prelude.{ℕ, List, Bool, Option}
use Rattle.std.specs.List.{position}
use Rattle.std.specs.Option.{option_map}
use Rattle.std.specs.Path.{path_components}
use Rattle.cc_text.specs.Words.{same_words}
use Rattle.cc_plan.specs.declared.error.ArgumentCause.TheVariants.{LibraryIsObject}
use Rattle.cc_plan.specs.declared.error.PlanError.{PlanError}
use Rattle.cc_plan.specs.declared.error.PlanError.TheVariants.{Argument}

-- a path is that of the library, component by component
abbrev pub is_library : List ℕ → List ℕ → Bool
is_library library path = same_words (path_components path) (path_components library)

-- the first of these objects that is the library
abbrev pub added_refusal : List ℕ → List (List ℕ) → Option PlanError
added_refusal library objects =
    option_map (λ place. Argument (LibraryIsObject place)) (position (is_library library) objects)
