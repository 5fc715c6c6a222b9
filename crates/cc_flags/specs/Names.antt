-- The names of a static library, as a linker looks for it: `foo` is in the file `libfoo.a`.
use Rattle.std.specs.Prelude.{ℕ, List, [], ◌++◌, Bool, not, ◌&&◌, ◌||◌, ◌==◌, Option, Some, None, option_and_then, unwrap_or, is_some, codes, bytes_eq, if◌then◌else◌}
use Rattle.std.specs.List.{list_any}
use Rattle.std.specs.Option.{option_or}
use Rattle.std.specs.Path.{path_parent, path_file_name}
use Rattle.cc_flags.specs.Texts.{is}
use Rattle.cc_target.specs.Targets.{Info}
use Rattle.cc_text.specs.Cuts.{after_prefix, before_suffix}
use Rattle.cc_flags.specs.Blanks.{nonempty}

-- an output that names no library: `lib.a` would be that of a library without a name
abbrev pub is_nameless : List ℕ → Bool
is_nameless output = bytes_eq output [] || bytes_eq output (codes ".") || bytes_eq output (codes "..") || bytes_eq output (codes "lib.a")

-- the text has a `/` in it
abbrev pub has_slash : List ℕ → Bool
has_slash output = list_any (λ b. b == 47) output

-- a single component of a path that names a library
unfoldable pub is_output_name : List ℕ → Bool
is_output_name output = not (is_nameless output) && not (has_slash output)

-- what stands between `lib` and `.a`, where that is not empty
unfoldable pub inner_name : List ℕ → Option (List ℕ)
inner_name output = nonempty (option_and_then (λ rest. before_suffix rest (codes ".a")) (after_prefix output (codes "lib")))

-- the name of the library: what a linker is given
abbrev pub library_name : List ℕ → List ℕ
library_name output = unwrap_or (inner_name output) output

-- the name of its file
abbrev pub library_file : List ℕ → List ℕ
library_file output = if is_some (inner_name output) then output else codes "lib" ++ output ++ codes ".a"

abbrev pub pair_of : {X : Type 0} → Option X → Option X → Option (X × X)
pair_of None second = None
pair_of (Some x) None = None
pair_of (Some x) (Some y) = Some (x, y)

-- the name of the second file of a library for Visual Studio
abbrev pub copy_file : List ℕ → List ℕ
copy_file name = name ++ codes ".lib"

-- what stands before `.lib`, where that is not empty
abbrev pub copied_name : List ℕ → Option (List ℕ)
copied_name file = nonempty (before_suffix file (codes ".lib"))

-- the name of a library by that of its file, which for Visual Studio may be its second one
unfoldable pub file_library : Info → List ℕ → Option (List ℕ)
file_library target file = option_or (inner_name file) (if is target.env "msvc" then copied_name file else None)

-- the name and the folder of a library by its path, where both are not empty
unfoldable pub linked_library : Info → List ℕ → Option (List ℕ × List ℕ)
linked_library target path = pair_of (option_and_then (file_library target) (path_file_name path)) (nonempty (path_parent path))
