-- The place of an object by its path, which is kept from its end on.
use Rattle.std.specs.Prelude.{ℕ, List, Option, reverse}
use Rattle.std.specs.Ordering.{nat_cmp}
use Rattle.std.specs.Cmp.Lexicographic.{slice_cmp}
use Rattle.std.specs.BTreeMap.{get_by}
use Rattle.cc_text.specs.declared.places.PathPlaces.{PathPlaces}

unfoldable pub place_at : PathPlaces → List ℕ → Option ℕ
place_at places path = get_by (λ key. slice_cmp nat_cmp (reverse path) key.items) places.by_path
