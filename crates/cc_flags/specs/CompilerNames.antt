-- What the name of a compiler's file says.
use Rattle.std.specs.Prelude.{ℕ, Bool, ◌&&◌, ◌||◌, ◌==◌, List, [], ◌∷◌, Option, unwrap_or, is_none, codes, if◌then◌else◌}
use Rattle.std.specs.List.{list_any}
use Rattle.std.specs.Path.{path_file_name}
use Rattle.cc_text.specs.Case.{lowered, ends_ignoring_case}
use Rattle.cc_target.specs.Targets.{Info}
use Rattle.cc_flags.specs.Texts.{is, has}
use Prim.Native.String.{String}

-- the file name of a path, or the empty name
unfoldable pub name_of : List ℕ → List ℕ
name_of path = unwrap_or (path_file_name path) []

-- the literal, of small letters, stands in the name, in either case of ASCII letters
abbrev pub has_ignoring_case : List ℕ → String → Bool
has_ignoring_case name literal = has (lowered name) literal

-- the name ends with the literal, in either case of ASCII letters
abbrev pub ends_with_either : List ℕ → String → Bool
ends_with_either name literal = ends_ignoring_case name (codes literal)

-- a `-` stands in the text
abbrev pub has_dash : List ℕ → Bool
has_dash text = list_any (λ b. b == 45) text

-- what stands before the last `-`, or nothing: each byte that a `-` follows somewhere
unfoldable pub before_last_dash : List ℕ → List ℕ
before_last_dash [] = []
before_last_dash (b ∷ text) = if has_dash text then b ∷ before_last_dash text else []

-- a MinGW compiler that Clang's distribution names by its target
unfoldable pub is_mingw_clang : List ℕ → Bool
is_mingw_clang program =
    let name = name_of program in
    ends_with_either name "-w64-mingw32-clang" || ends_with_either name "-w64-mingw32-clang++"

-- an Android compiler that is named by its target
unfoldable pub is_android_clang : List ℕ → Bool
is_android_clang program = has_ignoring_case (before_last_dash (name_of program)) "android"

-- a compiler for Windows that was found, not set, and gives itself the target that its name has
unfoldable pub has_windows_target : Option (List ℕ) → Info → List ℕ → Bool
has_windows_target compiler target program = is target.os "windows" && is_none compiler && is_mingw_clang program

-- a compiler for Android that gives itself the target that its name has
unfoldable pub has_android_target : Info → List ℕ → Bool
has_android_target target program = is target.os "android" && is_android_clang program
