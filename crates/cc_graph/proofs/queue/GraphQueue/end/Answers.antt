use Rattle.std.proofs.Common.{sym, ◌∙◌, ◌++◌, ◌∷◌, [], subst}
use Rattle.cc_run.specs.declared.mark.Mark.TheVariants.{Over}
use Rattle.cc_graph.specs.Graph.{graph_of}
use Rattle.cc_graph.specs.Queue.{Tells}
use Rattle.cc_graph.proofs.QueueLaws.{end_failed}
use Rattle.cc_graph.proofs.queue.GraphQueue.end.Goals as goal

pub returns-then-is_success-clause-stands : goal.returns-then-is_success-clause-stands
returns-then-is_success-clause-stands c = λ marks t.
    subst (λ nodes. Tells (graph_of nodes.now) c.succeed.new.self.waiters.items c.succeed.new.self.frontier (marks ++ Over c.args.place c.args.status ∷ [])) (sym c.succeed.ensures.nodes)
    (c.succeed.ensures.stands marks c.args.status (sym c.is_success.ensures ∙ c.if-is_success.true) t)

pub returns-else-is_success-clause-stands : goal.returns-else-is_success-clause-stands
returns-else-is_success-clause-stands c = λ marks t.
    end_failed (graph_of c.args.self.now.nodes.now) c.args.self.now.waiters.items c.args.self.now.frontier marks c.args.place c.args.status t (sym c.is_success.ensures ∙ c.if-is_success.false)
