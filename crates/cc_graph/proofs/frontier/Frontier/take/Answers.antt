use Rattle.std.proofs.Common.{refl}
use Rattle.cc_graph.proofs.FrontierLemmas.{first_some, taken, none_taken}
use Rattle.cc_graph.proofs.frontier.Frontier.take.Goals as goal

pub returns-in-Some-clause-taken : goal.returns-in-Some-clause-taken
returns-in-Some-clause-taken c = λ sound. taken c.args.self.now (record { counts = c.args.self.now.counts; ready = c.pop.new.self }) _ c.in-Some.ensures.permutation
    (first_some c.args.self.now _ (c.in-Some.ensures.variant.0 refl) c.in-Some.ensures.top (c.in-Some.ensures.heap_order sound.ordered).1)

pub returns-in-None-clause-taken : goal.returns-in-None-clause-taken
returns-in-None-clause-taken c = λ sound. none_taken c.args.self.now (record { counts = c.args.self.now.counts; ready = c.pop.new.self }) c.in-None.ensures.none
