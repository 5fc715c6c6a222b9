-- The list of libtool.
use Rattle.std.proofs.Common.{◌≡◌, ℕ, ◌+◌, List, [], ◌∷◌, length, Bool, true, false, None, nat_lt, if◌then◌else◌, refl, ◌∙◌, ap}
use Rattle.std.specs.List.{position, position_or_len, AllByRecursion}
use Rattle.std.specs.Option.{option_map}
use Rattle.cc_text.proofs.PositionLemmas.{one_more}
use Rattle.cc_plan.specs.Libtool.{is_libtool, has_line_feed, list_refusal}
use Rattle.cc_plan.specs.declared.archiver.Archiver.{Archiver}
use Rattle.cc_plan.specs.declared.error.ArgumentCause.TheVariants.{LineFeed}
use Rattle.cc_plan.specs.declared.error.PlanError.TheVariants.{Argument}
use Rattle.cc_plan.proofs.AddedLaws.{not_less}

all_on_lines : (paths : List (List ℕ)) → AllByRecursion (λ path. has_line_feed path ≡ false) paths → position_or_len has_line_feed paths ≡ length paths
all_on_lines [] hold = refl
all_on_lines (path ∷ paths) hold = rw hold.0 (ap (λ n. 1 + n) (all_on_lines paths hold.1) ∙ one_more (length paths))

where_listed : (b : Bool) (paths : List (List ℕ)) → (b ≡ true → AllByRecursion (λ path. has_line_feed path ≡ false) paths) → (if b then option_map (λ place. Argument (LineFeed place)) (position has_line_feed paths) else None) ≡ None
where_listed true paths hold = rw (all_on_lines paths (hold refl), not_less (length paths) (nat_lt (length paths) (length paths)) refl) refl
where_listed false paths hold = refl

-- paths are not refused, where none has a line feed
pub list_accepted : (archiver : Archiver) (paths : List (List ℕ)) → (is_libtool archiver ≡ true → AllByRecursion (λ path. has_line_feed path ≡ false) paths) → list_refusal archiver paths ≡ None
list_accepted archiver paths hold = where_listed (is_libtool archiver) paths hold
