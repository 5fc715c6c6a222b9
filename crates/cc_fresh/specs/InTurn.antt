-- What comes of each of some things in turn, and what is read for it.
use Rattle.std.specs.Prelude.{◌≡◌, List, [], ◌∷◌, ◌++◌}
use Rattle.cc_fresh.specs.Reads.{Read}

-- Of each of these such values come by such reads, one after another: these are the values of all, and these the reads.
abbrev pub InTurn : {X Y : Type 0} → (X → List Y → List Read → Type 0) → List X → List Y → List Read → Type 0
InTurn {X} {Y} fact [] ys told = (ys ≡ []) × (told ≡ [])
InTurn {X} {Y} fact (x ∷ xs) ys told =
    (made more : List Y) × (first rest : List Read)
    × ((ys ≡ made ++ more) × (told ≡ first ++ rest) × fact x made first × InTurn fact xs more rest)

-- the same, whatever the values are
abbrev pub InTurnSome : {X Y : Type 0} → (X → List Y → List Read → Type 0) → List X → List Read → Type 0
InTurnSome {X} {Y} fact xs told = (ys : List Y) × InTurn fact xs ys told

-- things side by side, as far as both go
abbrev pub pairs : {X Y : Type 0} → List X → List Y → List (X × Y)
pairs (x ∷ xs) (y ∷ ys) = (x, y) ∷ pairs xs ys
pairs _ _ = []
