-- Paths, beyond std's words for them.
use Rattle.std.specs.Prelude.{ℕ, List, ◌++◌, take, is_some, codes, if◌then◌else◌}
use Rattle.std.specs.Path.{path_file_name, stem_end}

-- the path up to the end of its stem, a dot and the extension; a path without file name as it is
unfoldable pub with_extension : List ℕ → List ℕ → List ℕ
with_extension path ext = if is_some (path_file_name path) then take (stem_end path) path ++ codes "." ++ ext else path
