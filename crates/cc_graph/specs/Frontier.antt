-- What is kept of the places that wait, and of those that are ready.
use Rattle.std.specs.Prelude.{◌≡◌, ◌<◌, ◌≤◌, ◌+◌, ◌==◌, ◌&&◌, ℕ, List, length, nat_lt, sum_by, Option, None, Some}
use Rattle.std.specs.List.{slice_index_or}
use Rattle.std.specs.BinaryHeap.{heap_items, heap_len, heap_capacity, IsHeap}
use Rattle.std.specs.Ordering.{nat_cmp}
use Rattle.std.specs.declared.cmp.Ordering.{Ordering}
use Rattle.std.specs.declared.cmp.Reverse.{Reverse}
use Rattle.cc_run.specs.Book.{one_where}
use Rattle.cc_graph.specs.declared.frontier.Frontier.{Frontier}

-- how often a place stands among these
abbrev pub times : ℕ → List ℕ → ℕ
times p = sum_by (λ q. one_where (q == p))

-- how many needs of a place are open; none of what is no place
abbrev pub open_in : List ℕ → ℕ → ℕ
open_in counts p = slice_index_or counts p 0

abbrev pub open_at : Frontier → ℕ → ℕ
open_at f p = open_in f.counts.items p

-- how often a place stands among those that are ready
abbrev pub ready_at : Frontier → ℕ → ℕ
ready_at f p = sum_by (λ r. one_where (r.0 == p)) (heap_items f.ready)

-- how many places have open needs
abbrev pub waiting : List ℕ → ℕ
waiting = sum_by (λ n. one_where (nat_lt 0 n))

-- the least place first
abbrev pub earlier : Reverse ℕ → Reverse ℕ → Ordering
earlier x y = nat_cmp y.0 x.0

-- The least place that is ready comes first, and there is room for each place that waits.
pub record Sound (f : Frontier) : Type 0 where
  pub ordered : IsHeap earlier (heap_items f.ready)
  pub few : heap_len f.ready + waiting f.counts.items ≤ length f.counts.items
  pub roomy : length f.counts.items ≤ heap_capacity f.ready

-- a place was made ready
pub record Freed (old new : Frontier) (place : ℕ) : Type 0 where
  pub same : new.counts ≡ old.counts
  pub more : (q : ℕ) → ready_at new q ≡ one_where (place == q) + ready_at old q
  pub ordered : IsHeap earlier (heap_items old.ready) → IsHeap earlier (heap_items new.ready)
  pub longer : heap_len new.ready ≡ heap_len old.ready + 1
  pub roomy : heap_capacity old.ready ≤ heap_capacity new.ready

-- the places of a list were counted down, and those that came to none are ready
pub record Lowered (old new : Frontier) (places : List ℕ) : Type 0 where
  pub size : length new.counts.items ≡ length old.counts.items
  pub fewer : (q : ℕ) → open_at new q + times q places ≡ open_at old q
  pub more : (q : ℕ) → ready_at new q ≡ ready_at old q + one_where (nat_lt 0 (open_at old q) && open_at new q == 0)

-- the least place that is ready, and none where none is
abbrev pub IsFirstReady : Frontier → Option ℕ → Type 0
IsFirstReady f None = (q : ℕ) → ready_at f q ≡ 0
IsFirstReady f (Some p) = (0 < ready_at f p) × ((q : ℕ) → q < p → ready_at f q ≡ 0)

-- these have needs that are open, each as many as it stands there
abbrev pub AreOpen : Frontier → List ℕ → Type 0
AreOpen f places = (q : ℕ) → times q places ≤ open_at f q

abbrev pub Lowers : Frontier → Frontier → List ℕ → Type 0
Lowers old new places = Sound new × Lowered old new places

-- the least place that is ready was taken out
abbrev pub Takes : Frontier → Frontier → Type 0
Takes old new = (p : ℕ) → IsFirstReady old (Some p) → (q : ℕ) → ready_at new q + one_where (p == q) ≡ ready_at old q
