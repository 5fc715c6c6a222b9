-- The children of a run that run, with the bytes that each gave since its last line feed.
use Rattle.std.specs.Prelude.{◌≡◌, ◌≢◌, ◌+◌, ◌<◌, ◌≤◌, ℕ, Bool, List, [], ◌∷◌, ◌==◌, length, map, if◌then◌else◌, Option, None, Some}
use Rattle.std.specs.List.{slice_index_or, remove}
use Rattle.cc_run.specs.Marks.{begins, has_failed}
use Rattle.cc_run.specs.Run.{Run, place_of}
use Rattle.cc_run.specs.declared.mark.Mark.{Mark}
use Rattle.cc_run.specs.declared.running.Child.{Child}

-- what is kept of a run: its children, and what began and ended
pub record Kept : Type 0 where
  pub children : List Child
  pub marks : List Mark

abbrev pub seat : Child → ℕ × ℕ
seat child = (child.id, child.place)

-- the run that is kept
abbrev pub run_of : Kept → Run
run_of kept = record { live = map seat kept.children; marks = kept.marks }

abbrev pub nothing_kept : Kept
nothing_kept = record { children = []; marks = [] }

-- Beside the marks it is kept how many commands were started and whether one failed. There is room for the marks of all
-- ends.
pub record IsBooked (children : List Child) (marks : List Mark) (room begun : ℕ) (failed : Bool) : Type 0 where
  pub roomy : length marks + length children ≤ room
  pub begun_is : begun ≡ begins marks
  pub failed_is : failed ≡ has_failed marks

-- the children without the first of that id
abbrev pub without_child : ℕ → List Child → List Child
without_child id [] = []
without_child id (c ∷ cs) = if c.id == id then cs else c ∷ without_child id cs

-- no child has that id
abbrev pub IsNoChild : ℕ → List Child → Type 0
IsNoChild id cs = (place_of id (map seat cs) ≡ None) × (without_child id cs ≡ cs)

-- one child fewer runs
abbrev pub IsOneLess : Kept → Kept → Type 0
IsOneLess old new = length new.children + 1 ≡ length old.children

-- the first child of that id stands there
pub record IsFirst (id : ℕ) (cs : List Child) (at : ℕ) : Type 0 where
  pub below : at < length cs
  pub own : (d : Child) → (slice_index_or cs at d).id ≡ id
  pub before : (k : ℕ) → (d : Child) → k < at → (slice_index_or cs k d).id ≢ id
  pub place : (d : Child) → place_of id (map seat cs) ≡ Some (slice_index_or cs at d).place
  pub rest : without_child id cs ≡ remove cs at
