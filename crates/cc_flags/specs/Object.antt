-- The object of a source. Its name has a hash of where the source lies, so that sources of one name in two folders have two objects.
use Rattle.std.specs.Prelude.{ℕ, List, [], ◌∷◌, ◌++◌, map, Option, Some, None, unwrap_or, option_and_then, codes}
use Rattle.std.specs.Path.{path_parent, path_file_name, path_extension, path_join}
use Rattle.cc_env.specs.Snapshot.{last_value}
use Rattle.cc_text.specs.Components.{strip_prefix}
use Rattle.cc_text.specs.Cuts.{after_prefix}
use Rattle.cc_text.specs.Hash.{fnv1a}
use Rattle.cc_text.specs.Hex.{hex16}
use Rattle.cc_text.specs.Paths.{with_extension}
use Rattle.cc_flags.specs.declared.object.Object.{Object}

-- a text and the byte FF, which no text has
abbrev pub ended : List ℕ → List ℕ
ended text = text ++ 255 ∷ []

abbrev pub ended_extension : Option (List ℕ) → List ℕ
ended_extension None = []
ended_extension (Some extension) = ended extension

-- the folder less a text that it begins with
abbrev pub after_text : Option (List ℕ) → List ℕ → Option (List ℕ)
after_text start folder = option_and_then (λ text. after_prefix folder text) start

-- the folder less the text of a variable that it begins with
abbrev pub after_variable : List (List ℕ × List ℕ) → List ℕ → List ℕ → Option (List ℕ)
after_variable env name folder = after_text (last_value env name) folder

-- the folder from a root on, by components
abbrev pub after_root : Option (List ℕ) → List ℕ → Option (List ℕ)
after_root root folder = option_and_then (λ r. strip_prefix folder r) root

-- where a folder counts from, and the folder from there on, where there is one; else the next choice
abbrev pub from_or : List ℕ → Option (List ℕ) → List ℕ × List ℕ → List ℕ × List ℕ
from_or origin (Some folder) next = (origin, folder)
from_or origin None next = next

-- where a folder counts from: the out dir of the script, its package, the root that is set, or nothing
unfoldable pub placed : List (List ℕ × List ℕ) → Option (List ℕ) → List ℕ → List ℕ × List ℕ
placed env root folder =
    from_or (codes "out_dir") (after_variable env (codes "OUT_DIR") folder)
    (from_or (codes "manifest_dir") (after_variable env (codes "CARGO_MANIFEST_DIR") folder)
    (from_or (codes "source_root") (after_root root folder)
    (codes "absolute", folder)))

-- what is hashed: where the folder counts from, the folder, and the extension where there is one
abbrev pub hashed : List (List ℕ × List ℕ) → Option (List ℕ) → List ℕ → List ℕ
hashed env root source =
    let place = placed env root (unwrap_or (path_parent source) []) in
    ended place.0 ++ ended place.1 ++ ended_extension (path_extension source)

-- the file name of the source behind the sixteen digits of the hash
unfoldable pub object_name : List (List ℕ × List ℕ) → Option (List ℕ) → List ℕ → List ℕ
object_name env root source = hex16 (fnv1a (hashed env root source)) ++ codes "-" ++ unwrap_or (path_file_name source) []

-- the object in a folder
unfoldable pub object_path : List (List ℕ × List ℕ) → Option (List ℕ) → List ℕ → List ℕ → List ℕ
object_path env root dir source = with_extension (path_join dir (object_name env root source)) (codes "o")

abbrev pub object_of : List (List ℕ × List ℕ) → Option (List ℕ) → List ℕ → List ℕ → Object
object_of env root dir source = record { src = source; dst = object_path env root dir source }

-- one object a source, in the order added
abbrev pub objects_of : List (List ℕ × List ℕ) → Option (List ℕ) → List ℕ → List (List ℕ) → List Object
objects_of env root dir sources = map (object_of env root dir) sources
