-- What each call of a run keeps of its seat, and what it counts.
use Rattle.std.specs.Prelude.{◌≡◌, ◌+◌, ℕ, List, length}
use Rattle.cc_host.specs.declared.event.Event.{Event}
use Rattle.cc_run.specs.Children.{Kept}
use Rattle.cc_run.specs.Listed.{BeganBelow}
use Rattle.cc_run.specs.Marks.{begins}
use Rattle.cc_run.specs.Part.{turns}
use Rattle.cc_run.specs.declared.planned.Turns.{Turns as TurnsSeen}

-- the seat is one of this pool, and holds nothing
pub record IsIdle {J S : Type 0} (fits : J → S → Type 0) (held : S → ℕ) (jobs : J) (seat : S) : Type 0 where
  pub fitting : fits jobs seat
  pub empty : held seat ≡ 0

-- the seat is one of this pool, and holds a token for each child of the run, whose commands were started from the first
-- on
pub record IsOneRun {J S : Type 0} (fits : J → S → Type 0) (held : S → ℕ) (jobs : J) (seat : S)
    (kept : Kept) : Type 0 where
  pub fitting : fits jobs seat
  pub tokens : held seat ≡ length kept.children
  pub listed : BeganBelow (begins kept.marks) kept.marks

-- the turns that are left fell, and those that were used rose, by the turns of the part
pub record TurnsMade (old new : TurnsSeen) (part : List Event) : Type 0 where
  pub left : new.left + turns part ≡ old.left
  pub used : new.used ≡ old.used + turns part

-- one turn fewer is left, and one more was used
abbrev pub IsOneFewer : TurnsSeen → TurnsSeen → Type 0
IsOneFewer old new = (new.left + 1 ≡ old.left) × (new.used ≡ old.used + 1)
