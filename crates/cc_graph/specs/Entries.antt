-- Entries that are read one at a time.
use Rattle.std.specs.Prelude.{◌≡◌, ℕ, List, length, Some, Ok}
use Rattle.json.specs.Token.{Token}
use Rattle.json.specs.Json.{items, value}
use Rattle.serde_json.specs.Data.{Data, Items}
use Rattle.serde_json.specs.Read.{of_json, of_items, converted}
use Rattle.cc_graph.specs.Read.{Env, values, node_of, nodes_upto}
use Rattle.cc_graph.specs.declared.node.Node.{Node}

-- of the tokens `old` the first are an entry that gives this node, and `new` are the others
abbrev pub IsEntry : Env → List Token → Node → List Token → Type 0
IsEntry env old node new =
    (d : Data) × (converted of_json (value 126 old) ≡ Some (d, new)) × (node_of env d ≡ Some node)

-- of the tokens `old` the first are entries that give these nodes and the end of their array, and `new` are the others
abbrev pub AreEntries : Env → ℕ → List Token → List Node → List Token → Type 0
AreEntries env most old nodes new =
    (ds : Items) × (converted of_items (items (value 126) (length old) old) ≡ Some (ds, new))
    × (nodes_upto env most (values ds) ≡ Ok nodes)
