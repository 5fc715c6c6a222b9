-- Probe files: those that were made and those that were dropped.
use Rattle.std.specs.Prelude.{◌≤◌, ◌<◌, ℕ, List, [], ◌∷◌, bytes_eq, count_by}
use Rattle.std.specs.List.{flat_map}
use Rattle.cc_host.specs.declared.event.Event.{Event}
use Rattle.cc_host.specs.declared.event.Event.TheVariants.{Opened, Dropped}

abbrev pub open_of : Event → List (List ℕ)
open_of (Opened path bytes) = path ∷ []
open_of _ = []

-- the probe files that were made, in order
abbrev pub opens : List Event → List (List ℕ)
opens = flat_map open_of

abbrev pub drop_of : Event → List (List ℕ)
drop_of (Dropped path) = path ∷ []
drop_of _ = []

-- the probe files that were dropped, in order
abbrev pub drops : List Event → List (List ℕ)
drops = flat_map drop_of

-- how often a path stands among these
abbrev pub times : List ℕ → List (List ℕ) → ℕ
times path = count_by (bytes_eq path)

-- a probe file of this path was made and not yet dropped: it was made more often than it was dropped
abbrev pub IsOpen : List ℕ → List Event → Type 0
IsOpen path log = times path (drops log) < times path (opens log)

-- no path was dropped more often than it was made
abbrev pub IsTidy : List Event → Type 0
IsTidy log = (path : List ℕ) → times path (drops log) ≤ times path (opens log)
