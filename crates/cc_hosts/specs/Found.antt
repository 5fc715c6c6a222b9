-- What a host remembers of a program: where it was found last.
use Rattle.std.specs.Prelude.{ℕ, List, Bool, Option, Some, None, bytes_eq, ◌&&◌, if◌then◌else◌}
use Rattle.std.specs.Bool.{beq}
use Rattle.cc_hosts.specs.declared.found.Found.{Found}

-- a program is looked for by the name that is remembered, and in the same folders: those of the same PATH, all of them or the absolute ones
abbrev pub is_same : Found → List ℕ → List ℕ → Bool → Bool
is_same found program folders absolute = bytes_eq found.program program && bytes_eq found.folders folders && beq found.absolute absolute

-- the path of such a program, and none of another
abbrev pub path_for : Found → List ℕ → List ℕ → Bool → Option (List ℕ)
path_for found program folders absolute = if is_same found program folders absolute then Some found.path else None
