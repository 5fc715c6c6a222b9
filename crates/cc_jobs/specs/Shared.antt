-- A pool that seats share. It is one word, the number of free tokens; here stand what a seat knows, what each kind of
-- step does to it, and the rule that each step keeps.
use Rattle.std.specs.Prelude.{◌≡◌, ◌≢◌, ℕ, ◌+◌, ◌-◌, ◌<◌, ◌^◌, List, [], ◌∷◌, ◌⊎◌, sum_by}
use mathlib.Core.Option.{some}
use lib.ListN.{get_elem?}
use Rattle.atomic_table.specs.Table.{State, Me, Step}
use Rattle.cc_jobs.specs.declared.sharing.SeatView.{SeatView}
use Rattle.cc_jobs.specs.Seats.{stands}

-- a load read 0
abbrev pub missed : SeatView → SeatView
missed v = record v { saw = 0; misses = v.misses + 1; loads = v.loads + 1 }

-- a load read n, above 0
abbrev pub seen : SeatView → ℕ → SeatView
seen v n = record v { saw = n; loads = v.loads + 1 }

-- an exchange won
abbrev pub won : SeatView → SeatView
won v = record v {
  held = v.held + 1;
  saw = 0;
  taken = stands (v.taken + 1);
  load = stands (v.load + (v.held + 1));
}

-- an exchange lost
abbrev pub lost : SeatView → SeatView
lost v = record v { saw = 0; misses = v.misses + 1 }

-- one token was added to the word
abbrev pub gave : SeatView → SeatView
gave v = record v { held = v.held - 1; given = stands (v.given + 1) }

-- a seat that was split off from one that knows this total
abbrev pub fresh : ℕ → SeatView
fresh total = record { total = total; held = 0; saw = 0; misses = 0; taken = 0; load = 0; loads = 0; given = 0 }

-- a seat that was joined to another
abbrev pub spent : SeatView
spent = fresh 0

-- A take that has a token: one load that read above 0, and the exchange that won.
abbrev pub took : SeatView → SeatView
took v = record (won v) { loads = v.loads + 1 }

-- what a load that read n tells
abbrev pub Looks : SeatView → ℕ → SeatView → Type 0
Looks v n w = ((n ≡ 0) × (w ≡ missed v)) ⊎ ((0 < n) × (w ≡ seen v n))

-- What an exchange that found n tells. It expects the number that the seat's last load read, and uses it up.
abbrev pub Trades : SeatView → ℕ → SeatView → Type 0
Trades v n w = (0 < v.saw) × (((n ≡ v.saw) × (w ≡ won v)) ⊎ ((n ≢ v.saw) × (w ≡ lost v)))

-- what an add of one tells
abbrev pub Returns : SeatView → SeatView → Type 0
Returns v w = (0 < v.held) × (w ≡ gave v)

-- a load, as a step of the word
abbrev pub looked : Step (Unit {0}) → Me (Unit {0}) SeatView → ℕ → Me (Unit {0}) SeatView → Type 0
looked step me n after = Looks me.0 n after.0 × (after.1 ≡ me.1)

-- an exchange, as a step of the word
abbrev pub traded : Step (Unit {0}) → Me (Unit {0}) SeatView → ℕ → Me (Unit {0}) SeatView → Type 0
traded step me n after = (step.first ≡ me.0.saw) × Trades me.0 n after.0 × (after.1 ≡ me.1)

-- an add, as a step of the word
abbrev pub returned : Step (Unit {0}) → Me (Unit {0}) SeatView → ℕ → Me (Unit {0}) SeatView → Type 0
returned step me n after = Returns me.0 after.0 × (after.1 ≡ me.1)

-- each seat that isn't spent knows the total
abbrev pub AllKnow : ℕ → List SeatView → Type 0
AllKnow total views = (i : ℕ) (v : SeatView) → get_elem? views i ≡ some v → (v.total ≡ total) ⊎ (v.total ≡ 0)

-- The rule: the free tokens and those that all seats hold are the total, which each seat knows.
abbrev pub Balanced : ℕ → State (Unit {0}) SeatView → Type 0
Balanced total s = (free : ℕ) × (s.words ≡ free ∷ []) × (free + sum_by (λ v. v.held) s.views ≡ total)
    × (total < 2 ^ 64) × AllKnow total s.views
