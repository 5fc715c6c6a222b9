use Rattle.std.proofs.Common.{◌∙◌, arith}
use Rattle.cc_graph.proofs.QueueLaws.{node_within, node_built, nodes_built}
use Rattle.cc_graph.proofs.queue.Graph.new.Goals as goal

pub wait_for-requires : goal.wait_for-requires
wait_for-requires c = record { within = node_within c.args.nodes.now c.loop-place.waiters.items c.loop-place.place c.index-nodes-place.result c.as_slice.result.now c.requires.closed c.loop-place-test.true c.index-nodes-place.is c.as_slice.ensures c.loop-place.invariant.size }

pub loop-place-preserved : goal.loop-place-preserved
loop-place-preserved c = record {
  size = c.in_ok-wait_for.ensures.size ∙ c.loop-place.invariant.size;
  room = omega (arith, c.loop-place.invariant.room, c.in_ok-add.ensures.room);
  built = node_built c.args.nodes.now c.loop-place.waiters.items c.wait_for.new.waiters.items c.loop-place.frontier c.add.new.self c.loop-place.place c.len.result c.index-nodes-place.result c.as_slice.result.now c.loop-place.invariant.built c.loop-place-test.true c.index-nodes-place.is c.as_slice.ensures c.len.ensures c.in_ok-add.ensures.sound c.in_ok-add.ensures.open c.in_ok-add.ensures.ready c.in_ok-wait_for.ensures.waits;
}

pub returns-clause-fresh : goal.returns-clause-fresh
returns-clause-fresh c = nodes_built c.args.nodes.now c.loop-place.waiters.items c.loop-place.frontier c.loop-place.place c.loop-place-test.false c.loop-place.invariant.built
