-- The folders in which programs are looked for.
use Rattle.std.specs.Prelude.{ℕ, Bool, nat_lt, ◌==◌, List, [], ◌∷◌, ◌++◌, Option, map, length, codes, if◌then◌else◌}
use Rattle.std.specs.List.{slice_split}
use Rattle.std.specs.Option.{option_map_or}
use Rattle.std.specs.Path.{path_components, path_join}
use Rattle.cc_env.specs.Env.{EnvSeen}
use Rattle.cc_env.specs.Snapshot.{last_value}

-- the folders of a list that is parted at `:`
unfoldable pub folders_of : List ℕ → List (List ℕ)
folders_of list = slice_split (λ b. b == 58) list

-- the folders in which a shell looks for programs
unfoldable pub path_folders : EnvSeen → List (List ℕ)
path_folders env = option_map_or folders_of (last_value env.inherited (codes "PATH")) []

-- the tool is a path of two or more components
unfoldable pub is_path : List ℕ → Bool
is_path tool = nat_lt 1 (length (path_components tool))

-- a name in each of some folders
unfoldable pub in_folders : List (List ℕ) → List ℕ → List (List ℕ)
in_folders folders name = map (λ folder. path_join folder name) folders

-- where a tool may be: a path is sought nowhere else
unfoldable pub places_of : List (List ℕ) → List ℕ → List (List ℕ)
places_of folders tool = if is_path tool then tool ∷ [] else in_folders folders tool

-- the folders of a list, where one is given, and behind them those in which a shell looks
unfoldable pub listed_folders : EnvSeen → Option (List ℕ) → List (List ℕ)
listed_folders env list = option_map_or folders_of list [] ++ path_folders env
