-- Commands with prerequisites as a graph of their places: orders in which each stands behind what it needs, and cycles.
use Rattle.std.specs.Prelude.{◌≡◌, ◌<◌, ℕ, suc, List, [], ◌∷◌, ◌++◌, map, length, find, Bool, true, false, not, ◌&&◌, ◌==◌, nat_le, Option, None, Some}
use Rattle.std.specs.List.{list_any, list_all, slice_index_or}
use Rattle.cc_graph.specs.declared.error.GraphError.{GraphError}
use Rattle.cc_graph.specs.declared.error.GraphError.TheVariants.{OutOfRange, Cycle, Run, NoMemory}
use Rattle.cc_graph.specs.declared.node.Node.{Node}

-- for each place the places that it needs
abbrev pub Graph : Type 0
Graph = List (List ℕ)

abbrev pub needs : Node → List ℕ
needs node = node.needs

-- the graph of some commands
abbrev pub graph_of : List Node → Graph
graph_of = map needs

-- what a place needs: nothing, where it is no place of the graph
abbrev pub needs_of : Graph → ℕ → List ℕ
needs_of g place = slice_index_or g place []

-- the place is one of these
abbrev pub among : List ℕ → ℕ → Bool
among places place = list_any (λ p. p == place) places

-- no place stands twice
abbrev pub are_apart : List ℕ → Bool
are_apart [] = true
are_apart (p ∷ ps) = not (among ps p) && are_apart ps

-- ---- an order

-- each place is one of the graph, needs only places before it, and stands once
abbrev pub Follows : Graph → List ℕ → List ℕ → Type 0
Follows g before [] = Unit {0}
Follows g before (p ∷ ps) =
    (p < length g) × (list_all (among before) (needs_of g p) ≡ true) × (among before p ≡ false)
    × Follows g (before ++ p ∷ []) ps

-- every place stands in it once, and behind all that it needs
pub record IsOrder (g : Graph) (order : List ℕ) : Type 0 where
  pub follows : Follows g [] order
  pub whole : (place : ℕ) → place < length g → among order place ≡ true

-- ---- a cycle

-- the place needs the first of these, each of them the next, and the last the end
abbrev pub leads : Graph → ℕ → List ℕ → ℕ → Bool
leads g place [] end = among (needs_of g place) end
leads g place (p ∷ ps) end = among (needs_of g place) p && leads g p ps end

-- each needs the next, and the last the first
abbrev pub is_ring : Graph → List ℕ → Bool
is_ring g [] = false
is_ring g (p ∷ ps) = leads g p ps p

-- none of these is less than the place
abbrev pub is_least : ℕ → List ℕ → Bool
is_least place places = list_all (nat_le place) places

abbrev pub begins_least : List ℕ → Bool
begins_least [] = false
begins_least (p ∷ ps) = is_least p (p ∷ ps)

-- places of which none stands twice and the least stands first, each needs the next, and the last the first
pub record IsCycle (g : Graph) (cycle : List ℕ) : Type 0 where
  pub apart : are_apart cycle ≡ true
  pub least : begins_least cycle ≡ true
  pub ring : is_ring g cycle ≡ true

-- ---- needs that are no places

-- the need, behind this node, where there is one
abbrev pub need_of : ℕ → Option ℕ → Option (ℕ × ℕ) → Option (ℕ × ℕ)
need_of node None more = more
need_of node (Some need) more = Some (node, need)

-- the first need that is no place of so many, with its node; the first of these nodes has that number
abbrev pub first_off : ℕ → ℕ → Graph → Option (ℕ × ℕ)
first_off count node [] = None
first_off count node (ns ∷ g) = need_of node (find (nat_le count) ns) (first_off count (suc node) g)

-- the first need that is no place, with its node
abbrev pub off : Graph → Option (ℕ × ℕ)
off g = first_off (length g) 0 g

-- the error tells of it
abbrev pub IsOff : Graph → GraphError → Type 0
IsOff g (OutOfRange node need) = off g ≡ Some (node, need)
IsOff g (Cycle cycle) = ⊥
IsOff g (Run e) = ⊥
IsOff g NoMemory = ⊥

-- why there is no order
abbrev pub IsRefusal : Graph → GraphError → Type 0
IsRefusal g (OutOfRange node need) = off g ≡ Some (node, need)
IsRefusal g (Cycle cycle) = IsCycle g cycle × (off g ≡ None)
IsRefusal g (Run e) = ⊥
IsRefusal g NoMemory = Unit {0}
