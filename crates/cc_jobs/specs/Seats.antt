-- What one call does to the counts of a seat. A count stands still at the greatest number of 64 bits.
use Rattle.std.specs.Prelude.{◌≡◌, ℕ, ◌+◌, ◌-◌, ◌^◌, ◌<◌, ◌≤◌, ◌⊎◌, Option, IfSome, min}

-- A count rose. One that stands at its last value counts as risen.
abbrev pub Rose : ℕ → ℕ → Type 0
Rose before now = now < 2 ^ 64 - 1 → before < now

-- where a count stands that would be n
abbrev pub stands : ℕ → ℕ
stands n = min n (2 ^ 64 - 1)

-- a count rose by n, or stands at the greatest number
abbrev pub UpBy : ℕ → ℕ → ℕ → Type 0
UpBy before n now = (now ≡ before + n) ⊎ (2 ^ 64 - 1 ≤ now)

-- where the total is told, it is at least 1, and no more than that are held
abbrev pub IsBounded : Option ℕ → ℕ → Type 0
IsBounded total held = IfSome total (λ t. (1 ≤ t) × (held ≤ t))
