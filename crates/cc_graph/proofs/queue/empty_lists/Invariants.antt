use Rattle.std.proofs.Common.{◌≡◌, [], replicate}
use Rattle.cc_graph.proofs.queue.empty_lists.Given as goal

abbrev pub invariant-loop-place : goal.invariant-loop-place
invariant-loop-place l = l.lists.items ≡ replicate l.place []
