use Rattle.std.proofs.Common.{◌≡◌, ◌≤◌, length, take}
use Rattle.std.specs.BinaryHeap.{heap_capacity}
use Rattle.cc_graph.specs.Graph.{graph_of}
use Rattle.cc_graph.proofs.QueueLaws.{Built}
use Rattle.cc_graph.proofs.queue.Graph.new.Given as goal

-- the nodes so far are built
abbrev pub invariant-loop-place : goal.invariant-loop-place
invariant-loop-place l = record {
  size : length l.waiters.items ≡ length l.nodes;
  room : length l.nodes ≤ heap_capacity l.frontier.ready;
  built : Built (graph_of (take l.place l.nodes)) l.waiters.items l.frontier;
}
