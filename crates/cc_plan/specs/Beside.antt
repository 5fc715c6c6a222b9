-- A tool of LLVM next to clang-cl, as kits have both in one folder.
use Rattle.std.specs.Prelude.{ℕ, List, Option, Some, None, if◌then◌else◌}
use Rattle.std.specs.Path.{path_join, path_parent}
use Rattle.cc_env.specs.Env.{EnvSeen}
use Rattle.cc_text.specs.Families.{is_clang_cl}
use Rattle.cc_text.specs.declared.family.ToolFamily.{ToolFamily}
use Rattle.cc_tool.specs.Plans.{Plan, bind, done}
use Rattle.cc_plan.specs.Search.{which}
use Rattle.cc_plan.specs.Searched.{searched}

-- a tool in a folder
unfoldable pub in_folder : EnvSeen → List ℕ → Option (List ℕ) → Plan (Option (List ℕ))
in_folder env tool None = done None
in_folder env tool (Some folder) = which env (path_join folder tool)

-- in that of a file
unfoldable pub in_folder_of : EnvSeen → List ℕ → Option (List ℕ) → Plan (Option (List ℕ))
in_folder_of env tool None = done None
in_folder_of env tool (Some file) = in_folder env tool (path_parent file)

-- in that of a compiler, where a shell finds it
unfoldable pub in_own_folder : EnvSeen → List ℕ → List ℕ → Plan (Option (List ℕ))
in_own_folder env path tool = bind (which env path) (in_folder_of env tool)

-- what was found, else in that folder
unfoldable pub or_own_folder : EnvSeen → List ℕ → List ℕ → Option (List ℕ) → Plan (Option (List ℕ))
or_own_folder env path tool None = in_own_folder env path tool
or_own_folder env path tool (Some found) = done (Some found)

-- where the compiler looks for programs, else in its own folder
unfoldable pub beside_compiler : EnvSeen → List ℕ → List ℕ → Plan (Option (List ℕ))
beside_compiler env path tool = bind (searched env path tool) (or_own_folder env path tool)

-- next to clang-cl alone
unfoldable pub beside : EnvSeen → ToolFamily → List ℕ → List ℕ → Plan (Option (List ℕ))
beside env family path tool = if is_clang_cl family then beside_compiler env path tool else done None
