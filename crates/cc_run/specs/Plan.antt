-- A plan: commands by their places, and which of them may be started after what.
use Rattle.std.specs.Prelude.{◌≡◌, ◌<◌, ◌+◌, ℕ, zero, suc, List, [], ◌&&◌, not, length, take, drop, Option, None, Some, Bool, true, false, if◌then◌else◌}
use Rattle.cc_run.specs.declared.mark.Mark.{Mark}
use Rattle.cc_run.specs.declared.planned.Planned.{Planned}
use Rattle.cc_run.specs.Marks.{has_begun}

-- `allows` says, after what began and what ended, whether the command at a place has nothing more to wait for.
pub record Plan : Type 0 where
  pub cmds : List Planned
  pub allows : List Mark → ℕ → Bool

-- what was not begun, and has nothing more to wait for, may be started
abbrev pub may : Plan → List Mark → ℕ → Bool
may plan marks p = not (has_begun marks p) && plan.allows marks p

-- the least number below that one which passes
pub record IsLeast (test : ℕ → Bool) (count p : ℕ) : Type 0 where
  pub below : p < count
  pub holds : test p ≡ true
  pub least : (q : ℕ) → q < p → test q ≡ false

-- the least that passes, and none exactly where none does
abbrev pub IsFirst : (ℕ → Bool) → ℕ → Option ℕ → Type 0
IsFirst test count None = (q : ℕ) → q < count → test q ≡ false
IsFirst test count (Some p) = IsLeast test count p

-- the place that comes next
abbrev pub IsNext : Plan → List Mark → Option ℕ → Type 0
IsNext plan marks = IsFirst (may plan marks) (length plan.cmds)

abbrev pub or_else : Option ℕ → Option ℕ → Option ℕ
or_else None o = o
or_else (Some p) o = Some p

unfoldable pub first_below : (ℕ → Bool) → ℕ → Option ℕ
first_below test zero = None
first_below test (suc n) = or_else (first_below test n) (if test n then Some n else None)

-- the same as a function
abbrev pub next_place : Plan → List Mark → Option ℕ
next_place plan marks = first_below (may plan marks) (length plan.cmds)

-- the command at a place, as a list of at most one
abbrev pub planned_at : List Planned → Option ℕ → List Planned
planned_at cmds None = []
planned_at cmds (Some p) = take 1 (drop p cmds)

-- the command that comes next
abbrev pub next_planned : Plan → List Mark → List Planned
next_planned plan marks = planned_at plan.cmds (next_place plan marks)

-- how many of the places below that one were not begun
unfoldable pub unbegun : ℕ → List Mark → ℕ
unbegun zero marks = 0
unbegun (suc n) marks = (if has_begun marks n then 0 else 1) + unbegun n marks
