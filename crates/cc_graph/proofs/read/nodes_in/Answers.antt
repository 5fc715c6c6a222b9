use Rattle.std.proofs.Common.{◌∙◌, sym, map, length}
use Rattle.serde_json.specs.View.{view}
use Rattle.cc_graph.specs.Read.{node_of}
use Rattle.cc_graph.proofs.ReadLemmas.{first_refused, all_read, nodes_read, nodes_refused}
use Rattle.cc_graph.proofs.read.nodes_in.Goals as goal

pub returns-in-None-clause-err : goal.returns-in-None-clause-err
returns-in-None-clause-err c _ =
    nodes_refused c.args.vars.now (map view c.args.values.now) (length c.loop-value.nodes.items) c.len.result
    (first_refused view (node_of c.args.vars.now) c.args.values.now c.loop-value.value-index c.value-item.result c.loop-value.nodes.items c.loop-value-test.true c.value-item.is c.loop-value.invariant (sym c.in_ok-node.ensures ∙ c.in-None.is))
    (c.len.ensures ∙ c.loop-value.nodes.ok.0)

pub returns-clause-ok : goal.returns-clause-ok
returns-clause-ok c =
    nodes_read c.args.vars.now (map view c.args.values.now) c.loop-value.nodes.items
    (all_read view (node_of c.args.vars.now) c.args.values.now c.loop-value.value-index c.loop-value.nodes.items c.loop-value-test.false c.loop-value.invariant)
