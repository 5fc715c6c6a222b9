use Rattle.std.proofs.Common.{refl}
use Rattle.cc_run.specs.Children.{nothing_kept}
use Rattle.cc_run.specs.Rules.{rules}
use Rattle.cc_run.specs.Seat.{seen_by}
use Rattle.cc_run.specs.State.{state}
use Rattle.cc_graph.specs.Queue.{graph_plan}
use Rattle.cc_graph.proofs.RunLaws.{refused_ran, refused_lines, graph_told}
use Rattle.cc_graph.proofs.run.run_graph.Goals as goal

pub returns-in-Ok-clause-graph : goal.returns-in-Ok-clause-graph
returns-in-Ok-clause-graph g c = graph_told c.args.nodes.now c.args.shows.now (g.J.Jobs.total c.args.seat.now) (state g.H.Host.log g.H.Host.patience (seen_by g.J.Jobs.held g.J.Jobs.total g.J.Jobs.taken g.J.Jobs.load g.J.Jobs.faults) c.args.host.now nothing_kept c.args.seat.now c.args.turns.now) c.run_nodes.result (g.H.Host.log c.run_nodes.new.host) (g.H.Host.patience c.run_nodes.new.host) (seen_by g.J.Jobs.held g.J.Jobs.total g.J.Jobs.taken g.J.Jobs.load g.J.Jobs.faults c.run_nodes.new.seat) c.run_nodes.new.turns c.in-Ok.ensures.closed refl c.run_nodes.ensures.ran

pub returns-clause-ran : goal.returns-clause-ran
returns-clause-ran g c = refused_ran c.args.nodes.now (rules (graph_plan c.args.nodes.now) c.args.shows.now) (g.J.Jobs.total c.args.seat.now) (state g.H.Host.log g.H.Host.patience (seen_by g.J.Jobs.held g.J.Jobs.total g.J.Jobs.taken g.J.Jobs.load g.J.Jobs.faults) c.args.host.now nothing_kept c.args.seat.now c.args.turns.now) c.in-Err.e c.in-Err.ensures.refused refl c.requires.idle.empty

pub returns-clause-lines : goal.returns-clause-lines
returns-clause-lines g c = refused_lines c.args.nodes.now (rules (graph_plan c.args.nodes.now) c.args.shows.now) (g.H.Host.log c.args.host.now) c.in-Err.e c.in-Err.ensures.refused
