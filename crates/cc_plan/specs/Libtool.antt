-- Apple's libtool in the place of `ar`: one command writes the library with its index. It can't add to a library, so it
-- reads the paths of all objects from a list file, one a line.
use Rattle.std.specs.Prelude.{ℕ, Bool, ◌==◌, List, [], ◌∷◌, ◌++◌, flat_map, Option, Some, None, unwrap_or, codes, if◌then◌else◌}
use Rattle.std.specs.List.{list_any, position}
use Rattle.std.specs.Option.{option_map}
use Rattle.std.specs.Path.{path_file_name}
use Rattle.cc_text.specs.Case.{lowered}
use Rattle.cc_text.specs.Within.{is_within}
use Rattle.cc_plan.specs.declared.archiver.Archiver.{Archiver}
use Rattle.cc_plan.specs.declared.error.ArgumentCause.TheVariants.{LineFeed}
use Rattle.cc_plan.specs.declared.error.PlanError.{PlanError}
use Rattle.cc_plan.specs.declared.error.PlanError.TheVariants.{Argument}

-- the name has it, whatever the case of ASCII letters
abbrev pub names_libtool : List ℕ → Bool
names_libtool name = is_within (codes "libtool") (lowered name)

-- the archiver is one, by its file name
unfoldable pub is_libtool : Archiver → Bool
is_libtool archiver = names_libtool (unwrap_or (path_file_name archiver.name) [])

-- the list lies beside the library
abbrev pub list_path : List ℕ → List ℕ
list_path library = library ++ codes ".filelist"

-- a static library without times and owners, of the paths in the list; no folder stands behind the comma, which would
-- be put before each
abbrev pub libtool_words : List ℕ → List (List ℕ)
libtool_words library =
    codes "-static" ∷ codes "-D" ∷ codes "-o" ∷ library ∷ codes "-filelist" ∷ (list_path library ++ codes ",") ∷ []

-- each path with a line feed
abbrev pub list_text : List (List ℕ) → List ℕ
list_text paths = flat_map (λ path. path ++ 10 ∷ []) paths

-- the path of the list and its bytes, where there is one
abbrev pub list_of : Archiver → List ℕ → List (List ℕ) → Option (List ℕ × List ℕ)
list_of archiver library paths = if is_libtool archiver then Some (list_path library, list_text paths) else None

abbrev pub listed : {X : Type 0} → Option X → List X
listed None = []
listed (Some x) = x ∷ []

-- the lists that are written before the library is: one or none
abbrev pub lists_of : Archiver → List ℕ → List (List ℕ) → List (List ℕ × List ℕ)
lists_of archiver library paths = listed (list_of archiver library paths)

abbrev pub has_line_feed : List ℕ → Bool
has_line_feed path = list_any (λ b. b == 10) path

-- the first of these paths that a line of the list can't hold
abbrev pub list_refusal : Archiver → List (List ℕ) → Option PlanError
list_refusal archiver paths =
    if is_libtool archiver then option_map (λ place. Argument (LineFeed place)) (position has_line_feed paths) else None
