-- Lemmas on the last failure of a member.
use Rattle.std.proofs.Common.{◌≡◌, ℕ, List, [], ◌∷◌, ◌++◌, Bool, true, false, if◌then◌else◌, Option, None, filter, replicate, zero, suc, ◌<◌, ◌+◌, length, take, refl, sym, ◌∙◌, ap, arith}
use Rattle.std.specs.List.{slice_index_or}
use Rattle.std.proofs.lemmas.List.{take_more}
use Rattle.std.proofs.lemmas.List.Elements.{filter-append}
use Rattle.cc_run.specs.Marks.{failure_after, failure_from}
use Rattle.cc_run.specs.declared.mark.Mark.{Mark}
use Rattle.cc_run.specs.declared.mark.Mark.TheVariants.{Began}
use Rattle.cc_fleet.specs.Failures.{Failure, failure_of, is_of, noted}

failure_then : (last : Option Failure) (a b : List Mark) → failure_from last (a ++ b) ≡ failure_from (failure_from last a) b
failure_then last [] b = refl
failure_then last (m ∷ a) b = failure_then (failure_after last m) a b

kept_one : (p : Mark → Bool) (mark : Mark) (last : Option Failure) → failure_from last (filter p (mark ∷ [])) ≡ (if p mark then failure_after last mark else last)
kept_one p mark last = elim (p mark) as (λ b. failure_from last (if b then mark ∷ [] else []) ≡ (if b then failure_after last mark else last)) [ true ↦ refl | false ↦ refl ]

-- one mark more
pub failure_more : (owners : List ℕ) (marks : List Mark) (mark : Mark) (member : ℕ) → failure_of owners (marks ++ mark ∷ []) member ≡ noted owners member mark (failure_of owners marks member)
failure_more owners marks mark member =
    ap (failure_from None) (filter-append (is_of owners member) marks (mark ∷ []))
    ∙ failure_then None (filter (is_of owners member) marks) (filter (is_of owners member) (mark ∷ []))
    ∙ kept_one (is_of owners member) mark (failure_of owners marks member)

abbrev no_failure : Option Failure
no_failure = None

-- none at first
pub none_noted : (count member : ℕ) → slice_index_or (replicate count no_failure) member None ≡ None
none_noted zero member = refl
none_noted (suc count) zero = refl
none_noted (suc count) (suc member) = none_noted count member

-- what began changes nothing
pub began_noted : (owners : List ℕ) (member p : ℕ) (last : Option Failure) → last ≡ noted owners member (Began p) last
began_noted owners member p last = elim (is_of owners member (Began p)) as (λ b. last ≡ (if b then last else last)) [ true ↦ refl | false ↦ refl ]

-- the failures by one mark more of a list
pub failures_next : (owners : List ℕ) (marks : List Mark) (i count : ℕ) (d : Mark) (old new : List (Option Failure)) → i < length marks → length old ≡ count → ((m : ℕ) → m < length old → slice_index_or new m None ≡ noted owners m (slice_index_or marks i d) (slice_index_or old m None)) → ((m : ℕ) → m < count → slice_index_or old m None ≡ failure_of owners (take i marks) m) → (m : ℕ) → m < count → slice_index_or new m None ≡ failure_of owners (take (i + 1) marks) m
failures_next owners marks i count d old new l size each before m within =
    each m (omega (arith, size, within))
    ∙ ap (noted owners m (slice_index_or marks i d)) (before m within)
    ∙ sym (ap (λ ms. failure_of owners ms m) (take_more marks i d l) ∙ failure_more owners (take i marks) (slice_index_or marks i d) m)
