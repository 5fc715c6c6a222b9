-- What began and what ended, in order.
use Rattle.std.specs.Prelude.{ℕ, ◌+◌, List, [], ◌∷◌, ◌==◌, ◌&&◌, not, Bool, false, Option, None, Some, if◌then◌else◌}
use Rattle.std.specs.List.{list_any}
use Rattle.cc_host.specs.Status.{is_success}
use Rattle.cc_host.specs.declared.event.Status.{Status}
use Rattle.cc_run.specs.declared.mark.Mark.{Mark}
use Rattle.cc_run.specs.declared.mark.Mark.TheVariants.{Began, Over}

abbrev pub is_begin : ℕ → Mark → Bool
is_begin p (Began q) = q == p
is_begin p (Over q status) = false

abbrev pub is_over : ℕ → Mark → Bool
is_over p (Began q) = false
is_over p (Over q status) = q == p

-- ended with the status 0
abbrev pub is_well : ℕ → Mark → Bool
is_well p (Began q) = false
is_well p (Over q status) = q == p && is_success status

-- ended with another status than 0
abbrev pub is_failure : Mark → Bool
is_failure (Began q) = false
is_failure (Over q status) = not (is_success status)

abbrev pub has_begun : List Mark → ℕ → Bool
has_begun marks p = list_any (is_begin p) marks

abbrev pub has_ended : List Mark → ℕ → Bool
has_ended marks p = list_any (is_over p) marks

abbrev pub has_succeeded : List Mark → ℕ → Bool
has_succeeded marks p = list_any (is_well p) marks

abbrev pub has_failed : List Mark → Bool
has_failed marks = list_any is_failure marks

-- how many commands were started
abbrev pub begins : List Mark → ℕ
begins [] = 0
begins (Began p ∷ marks) = 1 + begins marks
begins (Over p status ∷ marks) = begins marks

-- the last failure, after one mark more
abbrev pub failure_after : Option (ℕ × Status) → Mark → Option (ℕ × Status)
failure_after last (Began p) = last
failure_after last (Over p status) = if is_success status then last else Some (p, status)

abbrev pub failure_from : Option (ℕ × Status) → List Mark → Option (ℕ × Status)
failure_from last [] = last
failure_from last (m ∷ ms) = failure_from (failure_after last m) ms

-- the last end with another status than 0, by its place
abbrev pub last_failure : List Mark → Option (ℕ × Status)
last_failure = failure_from None
