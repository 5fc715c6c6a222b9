use Rattle.cc_graph.proofs.QueueLaws.{begin_graph}
use Rattle.cc_graph.proofs.queue.GraphQueue.begin.Goals as goal

pub returns-clause-stands : goal.returns-clause-stands
returns-clause-stands c = λ marks t next. begin_graph c.args.self.now.nodes.now c.args.self.now.waiters.items c.args.self.now.frontier c.take.new.self marks c.args._place t next (c.take.ensures.sound t.sound) c.take.ensures.counts (c.take.ensures.taken t.sound)
