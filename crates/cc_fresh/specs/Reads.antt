-- The reads of files that a call makes, and where they end.
use Rattle.std.specs.Prelude.{◌≡◌, ℕ, List, [], ◌∷◌, ◌++◌}
use Rattle.cc_host.specs.Event.{Rose}
use Rattle.cc_host.specs.declared.files.Held.{Held}
use Rattle.cc_fresh.specs.declared.file.ReadError.{ReadError}
use Rattle.cc_fresh.specs.declared.file.ReadError.TheVariants.{Fault, NoMemory}

-- a read: a path with what it gave
abbrev pub Read : Type 0
Read = List ℕ × Held

-- these reads are more than those, by reads of which this holds
abbrev pub Adds : List Read → List Read → (List Read → Type 0) → Type 0
Adds old new wanted = (told : List Read) × ((new ≡ old ++ told) × wanted told)

-- one file was read, and this holds of what it gave
abbrev pub AddsHeld : List Read → List Read → List ℕ → (Held → Type 0) → Type 0
AddsHeld old new path fact = (held : Held) × ((new ≡ old ++ (path, held) ∷ []) × fact held)

-- one read of this path
abbrev pub IsOne : List ℕ → List Read → Type 0
IsOne path told = (held : Held) × (told ≡ (path, held) ∷ [])

-- it ended for want of memory, or since the next read failed
abbrev pub EndsAt : ReadError → List Read → ℕ → ℕ → Type 0
EndsAt NoMemory more before now = Unit {0}
EndsAt (Fault path) [] before now = ⊥
EndsAt (Fault path) (next ∷ more) before now = (path ≡ next.0) × Rose before now

-- Of such reads as are wanted the first ones were made, and there it ended. What those that weren't made would have
-- given isn't known.
abbrev pub AddsFirst : List Read → List Read → (List Read → Type 0) → ReadError → ℕ → ℕ → Type 0
AddsFirst old new wanted e before now =
    (told more : List Read) × ((new ≡ old ++ told) × wanted (told ++ more) × EndsAt e more before now)
