-- A list of paths is cut into batches, so that no command line grows long. What must hold of them stands below the definition.
use Rattle.std.specs.Prelude.{◌≡◌, ◌≢◌, ℕ, ◌+◌, ◌-◌, ◌<◌, ◌≤◌, min, List, [], ◌∷◌, ◌++◌, length, nat_le, if◌then◌else◌}
use Rattle.std.specs.List.{flat_map, sum_by}

-- how many bytes the paths of a batch have at most, a longer first one aside
abbrev pub room : ℕ
room = 4000

-- the batches of the paths that are left, where one is begun that has so much room left
abbrev pub cut_from : List (List ℕ) → ℕ → List (List ℕ) → List (List (List ℕ))
cut_from batch left [] = batch ∷ []
cut_from batch left (path ∷ paths) =
    if nat_le (length path) left then cut_from (batch ++ path ∷ []) (left - length path) paths
    else batch ∷ cut_from (path ∷ []) (room - length path) paths

-- the first path of a batch is always taken, later ones while their lengths fit what is left of the room
abbrev pub batches_of : List (List ℕ) → List (List (List ℕ))
batches_of [] = []
batches_of (path ∷ paths) = cut_from (path ∷ []) (room - length path) paths

-- ---- what batches are

-- the lengths of a batch, where a first path that is longer than the room counts as the room
abbrev pub filled : List (List ℕ) → ℕ
filled [] = 0
filled (path ∷ paths) = min (length path) room + sum_by length paths

-- with the first path of the next batch it would pass the room
abbrev pub IsFull : List (List ℕ) → List (List (List ℕ)) → Type 0
IsFull batch ((path ∷ next) ∷ batches) = room < filled (batch ++ path ∷ [])
IsFull batch _ = Unit {0}

-- no batch is empty or passes the room, and each but the last would pass it with the next path
abbrev pub AreBatches : List (List (List ℕ)) → Type 0
AreBatches [] = Unit {0}
AreBatches (batch ∷ batches) = (batch ≢ []) × ((filled batch ≤ room) × (IsFull batch batches × AreBatches batches))

-- joined they are the paths, there are no more of them, and no other batches are so
pub record AreBatchesOf (paths : List (List ℕ)) (batches : List (List (List ℕ))) : Type 0 where
  pub joined : flat_map (λ batch. batch) batches ≡ paths
  pub fit : AreBatches batches
  pub few : length batches ≤ length paths
  pub alone : (others : List (List (List ℕ))) → flat_map (λ batch. batch) others ≡ paths → AreBatches others → others ≡ batches
