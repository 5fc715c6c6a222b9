-- Added objects and the library.
use Rattle.std.proofs.Common.{◌≡◌, ◌≢◌, ◌↔◌, IsTrue, ℕ, ◌+◌, List, [], ◌∷◌, length, Bool, true, false, None, nat_lt, refl, ◌∙◌, ap, arith}
use Rattle.std.specs.Bool.{Decides}
use Rattle.std.specs.List.{position_or_len, AllByRecursion}
use Rattle.std.specs.Path.{path_components}
use Rattle.std.proofs.lemmas.Bool.Decides.{same_from_decides}
use Rattle.cc_text.proofs.EqualityLemmas.{same_words-Decides}
use Rattle.cc_text.proofs.PositionLemmas.{one_more}
use borrow.Author.Tests.{ltb-true}
use Rattle.cc_plan.specs.Added.{is_library, added_refusal}

-- a test that decides whether two paths are the same
pub same_paths : (result : Bool) (path library : List ℕ) → (IsTrue result ↔ (path_components path ≡ path_components library)) → result ≡ is_library library path
same_paths result path library same =
    same_from_decides {P = path_components path ≡ path_components library} result (is_library library path) same (same_words-Decides (path_components path) (path_components library))

other : (b : Bool) (path library : List ℕ) → Decides b (path_components path ≡ path_components library) → path_components path ≢ path_components library → b ≡ false
other true path library same differs = absurd (differs (same.0 refl))
other false path library same differs = refl

all_others : (library : List ℕ) (objects : List (List ℕ)) → AllByRecursion (λ object. path_components object ≢ path_components library) objects → position_or_len (is_library library) objects ≡ length objects
all_others library [] differ = refl
all_others library (object ∷ objects) differ =
    rw (other (is_library library object) object library (same_words-Decides (path_components object) (path_components library)) differ.0)
    (ap (λ n. 1 + n) (all_others library objects differ.1) ∙ one_more (length objects))

pub not_less : (n : ℕ) (b : Bool) → nat_lt n n ≡ b → b ≡ false
not_less n true less = absurd (omega (arith, ltb-true n n less))
not_less n false less = refl

-- none of the objects is refused, where none is the library
pub added_accepted : (library : List ℕ) (objects : List (List ℕ)) → AllByRecursion (λ object. path_components object ≢ path_components library) objects → added_refusal library objects ≡ None
added_accepted library objects differ = rw (all_others library objects differ, not_less (length objects) (nat_lt (length objects) (length objects)) refl) refl
