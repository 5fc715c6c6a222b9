-- The link lines of a library.
use Rattle.std.specs.Prelude.{ℕ, false, List, [], ◌∷◌, ◌++◌, Option, codes}
use Rattle.std.specs.List.{join_by}
use Rattle.cc_env.specs.Env.{EnvSeen}
use Rattle.cc_text.specs.Words.{when}
use Rattle.cc_flags.specs.StdlibLines.{links_cpp, cpp_lines}
use Rattle.cc_flags.specs.declared.link_line.LinkLine.{LinkLine}
use Rattle.cc_flags.specs.declared.settings.BuildConfig.{BuildConfig}

-- the modifiers behind the kind of a library, with commas between
abbrev pub modifiers_part : List (List ℕ) → List ℕ
modifiers_part [] = []
modifiers_part (modifier ∷ modifiers) = codes ":" ++ join_by (λ m. m) (codes ",") (modifier ∷ modifiers)

-- the library is linked, as a static one
unfoldable pub library_line : List (List ℕ) → List ℕ → List ℕ
library_line modifiers name = codes "cargo:rustc-link-lib=static" ++ modifiers_part modifiers ++ codes "=" ++ name

-- its folder is searched
unfoldable pub search_line : List ℕ → List ℕ
search_line folder = codes "cargo:rustc-link-search=native=" ++ folder

-- a line that is printed at each call
abbrev pub always : List ℕ → LinkLine
always text = record { text = text; once = false }

-- the lines for a library in a folder, unless none are wanted
abbrev pub library_lines : BuildConfig → List ℕ → List ℕ → List LinkLine
library_lines set name folder = when set.cargo_metadata (always (library_line set.link_lib_modifiers name) ∷ always (search_line folder) ∷ [])

-- and those for the C++ library behind them
unfoldable pub lines_by : BuildConfig → EnvSeen → List ℕ → List ℕ → Option (List ℕ) → List LinkLine
lines_by set env name folder library = library_lines set name folder ++ when (links_cpp set) (cpp_lines set env library)
