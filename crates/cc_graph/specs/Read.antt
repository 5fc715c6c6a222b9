-- What a JSON text says as commands with prerequisites, or why it says none.
use Rattle.std.specs.Prelude.{ℕ, suc, List, [], ◌∷◌, map, take, length, codes, nat_lt, if◌then◌else◌, Option, Some, None, option_map, option_and_then, Result, Ok, Err}
use Rattle.serde_json.specs.Data.{Data, Items, no_items, item}
use Rattle.serde_json.specs.Find.{get, as_str, as_array, as_number, as_u64}
use Rattle.serde_json.specs.Read.{read}
use Rattle.cc_host.specs.Command.{CommandSeen}
use Rattle.cc_host.specs.declared.event.Role.TheVariants.{Compile}
use Rattle.cc_graph.specs.declared.node.Node.{Node}
use Rattle.cc_graph.specs.declared.read.GraphFileError.{GraphFileError}
use Rattle.cc_graph.specs.declared.read.GraphFileError.TheVariants.{NotJson, NotArray, Entry}

-- a list of variables
abbrev pub Env : Type 0
Env = List (List ℕ × List ℕ)

-- the values of an array
abbrev pub values : Items → List Data
values no_items = []
values (item d ds) = d ∷ values ds

-- the values, where each is there
abbrev pub all_some : {X : Type 0} → List (Option X) → Option (List X)
all_some [] = Some []
all_some (Some x ∷ os) = option_map (λ xs. x ∷ xs) (all_some os)
all_some (None ∷ os) = None

-- the place of the first that isn't there
abbrev pub first_none : {X : Type 0} → List (Option X) → ℕ
first_none [] = 0
first_none (Some x ∷ os) = suc (first_none os)
first_none (None ∷ os) = 0

-- a command of a program and words, with this environment
abbrev pub command_by : Env → Option (List ℕ) → Option (List (List ℕ)) → Option CommandSeen
command_by env program words =
    option_and_then (λ p. option_map (λ ws. record { program = p; args = ws; env = env; dir = None }) words) program

-- the command of texts, of which there is at least one
abbrev pub command_of : Env → List Data → Option CommandSeen
command_of env [] = None
command_of env (d ∷ ds) = command_by env (as_str d) (all_some (map as_str ds))

-- the command of an entry
abbrev pub command_in : Env → Data → Option CommandSeen
command_in env entry =
    option_and_then (λ ds. command_of env (values ds)) (option_and_then as_array (get (codes "command") entry))

-- a whole number below 2^32
abbrev pub small : ℕ → Option ℕ
small n = if nat_lt n 4294967296 then Some n else None

abbrev pub place_of : Data → Option ℕ
place_of d = option_and_then small (option_and_then as_u64 (as_number d))

abbrev pub places_of : Data → Option (List ℕ)
places_of d = option_and_then (λ ds. all_some (map place_of (values ds))) (as_array d)

-- the needs of an entry with this under `needs`; none, where there is no such key
abbrev pub needs_by : Option Data → Option (List ℕ)
needs_by (Some needs) = places_of needs
needs_by None = Some []

abbrev pub needs_in : Data → Option (List ℕ)
needs_in entry = needs_by (get (codes "needs") entry)

-- a node compiles, and says no message
abbrev pub node : CommandSeen → List ℕ → Node
node cmd needs = record { cmd = record { role = Compile; cmd = cmd; message = None }; needs = needs }

abbrev pub node_by : Option CommandSeen → Option (List ℕ) → Option Node
node_by cmd needs = option_and_then (λ c. option_map (λ ns. node c ns) needs) cmd

-- the node of an entry, if it has the shape
unfoldable pub node_of : Env → Data → Option Node
node_of env entry = node_by (command_in env entry) (needs_in entry)

-- some nodes, or the place of the first entry that is none
abbrev pub nodes_by : Option (List Node) → ℕ → Result (List Node) GraphFileError
nodes_by (Some nodes) place = Ok nodes
nodes_by None place = Err (Entry place)

unfoldable pub nodes_of : Env → List Data → Result (List Node) GraphFileError
nodes_of env ds = nodes_by (all_some (map (node_of env) ds)) (first_none (map (node_of env) ds))

-- no more than so many: the next lacks the shape
abbrev pub bounded : ℕ → ℕ → Result (List Node) GraphFileError → Result (List Node) GraphFileError
bounded most count (Ok nodes) = if nat_lt most count then Err (Entry most) else Ok nodes
bounded most count (Err e) = Err e

abbrev pub nodes_upto : Env → ℕ → List Data → Result (List Node) GraphFileError
nodes_upto env most ds = bounded most (length ds) (nodes_of env (take most ds))

-- the nodes of a value
abbrev pub array_nodes : Env → ℕ → Option Items → Result (List Node) GraphFileError
array_nodes env most (Some ds) = nodes_upto env most (values ds)
array_nodes env most None = Err NotArray

-- the nodes of a text that is a value, or none
abbrev pub value_nodes : Env → ℕ → Option Data → Result (List Node) GraphFileError
value_nodes env most (Some d) = array_nodes env most (as_array d)
value_nodes env most None = Err NotJson

-- the nodes of a text: fewer than 2^32
unfoldable pub read_graph : Env → List ℕ → Result (List Node) GraphFileError
read_graph env text = value_nodes env 4294967295 (read text)
