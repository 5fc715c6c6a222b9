-- Which command of a member failed last.
use Rattle.std.specs.Prelude.{ℕ, suc, List, [], ◌∷◌, ◌++◌, ◌==◌, length, replicate, filter, Bool, false, Option, None, Some, if◌then◌else◌}
use Rattle.std.specs.List.{slice_get}
use Rattle.cc_host.specs.declared.event.Status.{Status}
use Rattle.cc_run.specs.Marks.{failure_after, last_failure}
use Rattle.cc_run.specs.declared.mark.Mark.{Mark}
use Rattle.cc_run.specs.declared.mark.Mark.TheVariants.{Began, Over}

-- the place of a command that failed, and how it ended
abbrev pub Failure : Type 0
Failure = ℕ × Status

-- for each command of these lists the place of its list; the first list has that place
abbrev pub owners_from : {X : Type 0} → ℕ → List (List X) → List ℕ
owners_from n [] = []
owners_from n (cmds ∷ lists) = replicate (length cmds) n ++ owners_from (suc n) lists

-- for each command the member that it is of
abbrev pub owners_of : {X : Type 0} → List (List X) → List ℕ
owners_of = owners_from 0

abbrev pub is_member : ℕ → Option ℕ → Bool
is_member member None = false
is_member member (Some owner) = owner == member

abbrev pub place_of : Mark → ℕ
place_of (Began p) = p
place_of (Over p status) = p

-- the command of a mark is of this member
abbrev pub is_of : List ℕ → ℕ → Mark → Bool
is_of owners member mark = is_member member (slice_get owners (place_of mark))

-- the last failure of this member, after one mark more
abbrev pub noted : List ℕ → ℕ → Mark → Option Failure → Option Failure
noted owners member mark last = if is_of owners member mark then failure_after last mark else last

-- the last end with another status than 0 of a command of this member
abbrev pub failure_of : List ℕ → List Mark → ℕ → Option Failure
failure_of owners marks member = last_failure (filter (is_of owners member) marks)
