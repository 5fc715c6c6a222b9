-- The bytes of a command, taken in piece by piece.
use Rattle.std.proofs.Common.{◌≡◌, ℕ, List, [], ◌∷◌, ◌++◌, Option, flat_map, ◌∙◌, append_assoc}
use Rattle.cc_host.specs.Command.{CommandSeen}
use Rattle.cc_fresh.specs.Digests.{closed, closed_pair, or_nothing, command_bytes}

pieces : (p w e d : List ℕ) → ((((p ++ w) ++ 0xFE ∷ []) ++ e) ++ 0xFE ∷ []) ++ d ≡ p ++ w ++ 0xFE ∷ (e ++ 0xFE ∷ d)
pieces p w e d =
    append_assoc (((p ++ w) ++ 0xFE ∷ []) ++ e) (0xFE ∷ []) d
    ∙ append_assoc ((p ++ w) ++ 0xFE ∷ []) e (0xFE ∷ d)
    ∙ append_assoc (p ++ w) (0xFE ∷ []) (e ++ 0xFE ∷ d)

pub all_taken : (c : CommandSeen) (program : List ℕ) (args : List (List ℕ)) (env : List (List ℕ × List ℕ)) (dir : Option (List ℕ)) → program ≡ c.program → args ≡ c.args → env ≡ c.env → dir ≡ c.dir → ((((closed program ++ flat_map closed args) ++ 0xFE ∷ []) ++ flat_map closed_pair env) ++ 0xFE ∷ []) ++ or_nothing dir ≡ command_bytes c
all_taken c program args env dir p a e d = rw (p, a, e, d) (pieces (closed c.program) (flat_map closed c.args) (flat_map closed_pair c.env) (or_nothing c.dir))
