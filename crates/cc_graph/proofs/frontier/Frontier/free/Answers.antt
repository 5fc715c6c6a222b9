use Rattle.std.proofs.Common.{refl}
use Rattle.std.specs.BinaryHeap.{heap_items}
use Rattle.cc_graph.proofs.FrontierLemmas.{freed}
use Rattle.cc_graph.proofs.frontier.Frontier.free.Goals as goal

pub returns-in-Ok : goal.returns-in-Ok
returns-in-Ok c = λ room. record {
  same = refl;
  more = freed _ (heap_items c.args.self.now.ready) (heap_items c.push.new.self) c.in-Ok.ensures.permutation;
  ordered = c.in-Ok.ensures.heap_order;
  longer = c.in-Ok.ensures.len;
  roomy = c.in-Ok.ensures.capacity;
}
