use Rattle.std.proofs.Common.{◌≡◌, ℕ, ◌≤◌, List, map, length, Some}
use Rattle.json.specs.Json.{items, value, parse_map}
use Rattle.serde_json.specs.Data.{Data}
use Rattle.serde_json.specs.Read.{of_items, converted}
use Rattle.cc_graph.specs.Read.{node_of}
use Rattle.cc_graph.proofs.EntryLemmas.{data_before}
use Rattle.cc_graph.proofs.entries.entries.Given as goal

-- the data so far come before the others, and give the nodes
abbrev pub invariant-entries : goal.invariant-entries
invariant-entries l =
    (n : ℕ) × (length l.reader ≤ n) × (ds : List Data)
    × (converted of_items (items (value 126) (length l.initial.reader) l.initial.reader) ≡ parse_map (data_before ds) (converted of_items (items (value 126) n l.reader)))
    × (map (node_of l.vars) ds ≡ map Some l.nodes.items) × (length l.nodes.items ≤ l.most)

abbrev pub decreases-entries : goal.decreases-entries
decreases-entries l = length l.reader
