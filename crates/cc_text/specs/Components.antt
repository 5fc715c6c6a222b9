-- The components of a path, and the text from one of them on.
use Rattle.std.specs.Prelude.{◌≡◌, ℕ, zero, suc, ◌<◌, false, List, [], ◌∷◌, Option, Some, None, length, drop, bytes_eq, codes, if◌then◌else◌}
use Rattle.std.specs.List.{starts_with}
use Rattle.std.specs.Path.{path_components, first_piece, is_leading, is_dot_at, trim_trailing, IsRelative}
use Rattle.cc_text.specs.declared.parts.Component.{Component}
use Rattle.cc_text.specs.declared.parts.Component.TheVariants.{RootDir, CurDir, ParentDir, Normal}

-- the component that a text among those of a path is
abbrev pub component_of : List ℕ → Component
component_of text =
    if bytes_eq text (codes "/") then RootDir
    else (if bytes_eq text (codes ".") then CurDir
    else (if bytes_eq text (codes "..") then ParentDir
    else Normal text))

-- the base has a byte, and the path is relative and doesn't begin with the part `.`
abbrev pub KeepsComponents : List ℕ → List ℕ → Type 0
KeepsComponents base path = (0 < length base) × IsRelative path × (is_dot_at path 0 ≡ false)

-- the text without the slashes and parts `.` that it begins with
abbrev pub skip_leading : List ℕ → List ℕ
skip_leading [] = []
skip_leading (b ∷ rest) = if is_leading (b ∷ rest) 0 then skip_leading rest else b ∷ rest

-- the text of a path from its second component on
unfoldable pub after_first : List ℕ → List ℕ
after_first path = skip_leading (drop (length (first_piece path)) path)

-- the text of a path from the component at a place on
abbrev pub from_component : ℕ → List ℕ → List ℕ
from_component zero path = path
from_component (suc place) path = from_component place (after_first path)

-- the path from the first component after the base's to the end of its last, where the base's components begin its own
unfoldable pub strip_prefix : List ℕ → List ℕ → Option (List ℕ)
strip_prefix path base =
    if starts_with bytes_eq (path_components path) (path_components base)
    then Some (from_component (length (path_components base)) (trim_trailing path))
    else None
