-- What a walk through a graph keeps.
use Rattle.std.specs.Prelude.{◌≡◌, ◌<◌, ◌+◌, ◌-◌, ◌++◌, ℕ, suc, List, [], ◌∷◌, length, Bool, true, false, slice_index, slice_get, take, Option, None, Some}
use Rattle.std.specs.List.{list_all, slice_index_or}
use Rattle.cc_graph.specs.Graph.{Graph, needs_of, among, Follows, IsCycle, begins_least}
use Rattle.cc_graph.specs.declared.error.GraphError.{GraphError}
use Rattle.cc_graph.specs.declared.error.GraphError.TheVariants.{OutOfRange, Cycle, Run, NoMemory}
use Rattle.cc_graph.specs.declared.walk.Mark.{Mark}
use Rattle.cc_graph.specs.declared.walk.Mark.TheVariants.{New, Open, Done}
use Rattle.cc_graph.specs.declared.walk.Walk.{Walk}

abbrev pub is_new : Mark → Bool
is_new New = true
is_new (Open at next) = false
is_new Done = false

abbrev pub is_done : Mark → Bool
is_done New = false
is_done (Open at next) = false
is_done Done = true

-- where a place stands on the path
abbrev pub depth_of : Mark → Option ℕ
depth_of New = None
depth_of (Open at next) = Some at
depth_of Done = None

-- how many needs of a place were left behind
abbrev pub next_of : Mark → ℕ
next_of New = 0
next_of (Open at next) = next
next_of Done = 0

abbrev pub mark_in : List Mark → ℕ → Mark
mark_in marks place = slice_index_or marks place New

abbrev pub mark_at : Walk → ℕ → Mark
mark_at walk place = mark_in walk.marks.items place

-- ---- what is left to be done

-- of a place with so many needs: it is entered, each need is left behind, and it is put in the order
abbrev pub left : ℕ → Mark → ℕ
left count New = count + 2
left count (Open at next) = (count - next) + 1
left count Done = 0

abbrev pub work : Graph → List Mark → ℕ
work [] marks = 0
work (ns ∷ g) [] = 0
work (ns ∷ g) (m ∷ ms) = left (length ns) m + work g ms

-- ---- what is kept

pub record Keeps (g : Graph) (marks : List Mark) (path order : List ℕ) (begun : ℕ) : Type 0 where
  pub sizes : length marks ≡ length g
  -- the places that were begun with were entered
  pub entered : (k : ℕ) → k < begun → is_new (mark_in marks k) ≡ false
  -- a place that is open stands on the path where it says
  pub placed : (k i : ℕ) → depth_of (mark_in marks k) ≡ Some i → (i < length path) × (slice_index path i ≡ k)
  -- those on the path are open
  pub opened : (i : ℕ) → i < length path
      → (slice_index path i < length g) × (depth_of (mark_in marks (slice_index path i)) ≡ Some i)
  -- each needs the next
  pub linked : (i j : ℕ) → j ≡ suc i → j < length path
      → among (needs_of g (slice_index path i)) (slice_index path j) ≡ true
  -- needs that were left behind stand in the order
  pub passed : (k : ℕ) → list_all (among order) (take (next_of (mark_in marks k)) (needs_of g k)) ≡ true
  -- the order has those that are done
  pub known : (k : ℕ) → among order k ≡ is_done (mark_in marks k)
  pub follows : Follows g [] order

abbrev pub Sound : Graph → Walk → Type 0
Sound g walk = Keeps g walk.marks.items walk.path.items walk.order walk.begun

-- the place stands last on the path
abbrev pub IsTop : Walk → ℕ → Type 0
IsTop walk place = (0 < length walk.path.items) × (slice_index walk.path.items (length walk.path.items - 1) ≡ place)

-- the last of the path, where there is one, needs the place
abbrev pub MayEnter : Graph → Walk → ℕ → Type 0
MayEnter g walk place = 0 < length walk.path.items
    → among (needs_of g (slice_index walk.path.items (length walk.path.items - 1))) place ≡ true

-- the next need of the place stands in the order
abbrev pub NextIsIn : Graph → Walk → ℕ → Type 0
NextIsIn g walk place = (need : ℕ)
    × ((slice_get (needs_of g place) (next_of (mark_at walk place)) ≡ Some need) × (among walk.order need ≡ true))

-- less is left to be done
abbrev pub IsLess : Graph → Walk → Walk → Type 0
IsLess g old new = work g new.marks.items < work g old.marks.items

-- these are a list, and behind its end its front
pub record IsTurned (places turned : List ℕ) : Type 0 where
  pub front : List ℕ
  pub back : List ℕ
  pub are : places ≡ front ++ back
  pub turned_is : turned ≡ back ++ front
  pub least : begins_least turned ≡ true

-- why a walk ended
abbrev pub IsCause : Graph → GraphError → Type 0
IsCause g (OutOfRange node need) = ⊥
IsCause g (Cycle cycle) = IsCycle g cycle
IsCause g (Run e) = ⊥
IsCause g NoMemory = Unit {0}
