use Rattle.std.proofs.Common.{◌≡◌, map, take, Some}
use Rattle.serde_json.specs.View.{view}
use Rattle.cc_graph.specs.Read.{node_of}
use Rattle.cc_graph.proofs.read.nodes_in.Given as goal

-- the nodes are those of the entries so far
abbrev pub invariant-loop-value : goal.invariant-loop-value
invariant-loop-value l = map (node_of l.vars) (map view (take l.value-index l.values)) ≡ map Some l.nodes.items
