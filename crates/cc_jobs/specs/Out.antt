-- How many tokens are out, and which counts go together.
use Rattle.std.specs.Prelude.{◌≡◌, ℕ, ◌+◌, ◌⊎◌, Bool, true, false}
use Rattle.cc_jobs.specs.Seats.{stands}

-- The tokens out are those taken from the client and not given to it, and the implicit one while it isn't home.
abbrev pub IsOut : ℕ → Bool → ℕ → ℕ → Type 0
IsOut out is_home taken given = (is_home ≡ true → out + given ≡ taken) × (is_home ≡ false → out + given ≡ taken + 1)

-- a count of one's own and the client's rose by one each, or both stand
abbrev pub RoseWith : (own own' theirs theirs' : ℕ) → Type 0
RoseWith own own' theirs theirs' = ((own' ≡ stands (own + 1)) × (theirs' ≡ stands (theirs + 1)))
    ⊎ ((own' ≡ own) × (theirs' ≡ theirs))
