-- A list as a plan.
use Rattle.std.specs.Prelude.{◌≡◌, ◌<◌, ◌≤◌, ◌&&◌, not, ℕ, List, Bool, true, false}
use Rattle.cc_run.specs.declared.mark.Mark.{Mark}
use Rattle.cc_run.specs.declared.planned.Planned.{Planned}
use Rattle.cc_run.specs.Marks.{has_begun, has_failed, begins}
use Rattle.cc_run.specs.Plan.{Plan}

-- no command waits for another, but where the list stops none may be started after a failure
abbrev pub listed_plan : Bool → List Planned → Plan
listed_plan stop cmds = record { cmds = cmds; allows = λ marks p. not (stop && has_failed marks) }

-- so many began, from the first on
pub record BeganBelow (n : ℕ) (marks : List Mark) : Type 0 where
  pub yes : (p : ℕ) → p < n → has_begun marks p ≡ true
  pub no : (p : ℕ) → n ≤ p → has_begun marks p ≡ false

-- a list that was told of these: so many began, from the first on, each once, and whether one failed
pub record StandsAt (n : ℕ) (failed : Bool) (marks : List Mark) : Type 0 where
  pub began : BeganBelow n marks
  pub begun_is : n ≡ begins marks
  pub failed_is : failed ≡ has_failed marks
