-- Where the program of a command is looked for.
use Rattle.std.specs.Prelude.{ℕ, Bool, List, reverse, Option, codes, ◌==◌}
use Rattle.std.specs.List.{list_any}
use Rattle.cc_text.specs.Vars.{lookup}

-- a name with a slash says where the program is
abbrev pub has_slash : List ℕ → Bool
has_slash = list_any (λ b. b == 47)

-- the PATH that a child gets of these variables, or none: the value of the last pair of that name
abbrev pub child_path : List (List ℕ × List ℕ) → Option (List ℕ)
child_path vars = lookup (reverse vars) (codes "PATH")
