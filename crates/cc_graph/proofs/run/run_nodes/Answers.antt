use Rattle.std.proofs.Common.{refl}
use Rattle.cc_run.specs.Children.{nothing_kept}
use Rattle.cc_run.specs.Rules.{rules}
use Rattle.cc_run.specs.Seat.{seen_by}
use Rattle.cc_run.specs.State.{state}
use Rattle.cc_graph.specs.Queue.{graph_plan}
use Rattle.cc_graph.proofs.RunLaws.{ran_nothing, nothing_printed}
use Rattle.cc_graph.proofs.run.run_nodes.Goals as goal

pub returns-in_default-clause-ran : goal.returns-in_default-clause-ran
returns-in_default-clause-ran g c = ran_nothing (rules (graph_plan c.args.nodes.now) c.args.shows.now) (g.J.Jobs.total c.args.seat.now) (state g.H.Host.log g.H.Host.patience (seen_by g.J.Jobs.held g.J.Jobs.total g.J.Jobs.taken g.J.Jobs.load g.J.Jobs.faults) c.args.host.now nothing_kept c.args.seat.now c.args.turns.now) refl c.requires.idle.empty

pub returns-in_default-clause-lines : goal.returns-in_default-clause-lines
returns-in_default-clause-lines g c = nothing_printed (rules (graph_plan c.args.nodes.now) c.args.shows.now) (g.H.Host.log c.args.host.now)
