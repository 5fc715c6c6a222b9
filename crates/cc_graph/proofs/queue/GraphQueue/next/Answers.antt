use Rattle.cc_graph.proofs.QueueLaws.{next_graph}
use Rattle.cc_graph.proofs.queue.GraphQueue.next.Goals as goal

pub returns : goal.returns
returns c = λ marks t. next_graph c.args.self.now.nodes.now c.args.self.now.waiters.items c.args.self.now.frontier marks c.first.result t (c.first.ensures t.sound)
