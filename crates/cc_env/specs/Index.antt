-- Lists of pairs with distinct names, and where each name stands.
use Rattle.std.specs.Prelude.{◌≡◌, ℕ, List, Option, None, String, bytes_eq}
use Rattle.std.specs.Arc.{arc_value}
use Rattle.std.specs.declared.sync.Arc.{Arc}
use Rattle.std.specs.Option.{option_or, option_map_or}
use Rattle.std.specs.BTreeMap.{BTreeMap, get_by_text}
use Rattle.cc_text.specs.Vars.{place_of}
use Rattle.cc_text.specs.Map.{HasDistinctKeys}

-- no name is there twice, and each name has its place
pub record IsIndexed (vars : List (List ℕ × List ℕ)) (places : List ℕ → Option ℕ) : Type 0 where
  pub distinct : HasDistinctKeys bytes_eq vars
  pub places_is : (name : List ℕ) → places name ≡ place_of vars name

-- the place of a name in the first map that has it
abbrev pub place_in : {Y : Type 0} → BTreeMap (String Y) ℕ → BTreeMap (String Y) ℕ → List ℕ → Option ℕ
place_in first second name = option_or (get_by_text first name) (get_by_text second name)

-- the place of a name in a map that is shared; without a map no name has one
abbrev pub shared_place : {Y Z : Type 0} → Option (Arc (BTreeMap (String Y) ℕ) Z) → List ℕ → Option ℕ
shared_place shared = option_map_or (λ places. get_by_text (arc_value places)) shared (λ name. None)
