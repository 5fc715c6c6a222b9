use Rattle.std.proofs.Common.{◌≡◌, ◌∙◌, refl, sym, ap, length}
use Rattle.cc_run.specs.Children.{nothing_kept}
use Rattle.cc_run.specs.Rules.{rules}
use Rattle.cc_run.specs.Seat.{seen_by}
use Rattle.cc_run.specs.State.{state}
use Rattle.cc_graph.specs.Queue.{graph_plan}
use Rattle.cc_command.specs.Graphed.{graph_shows}
use Rattle.cc_command.proofs.GraphedLaws.{graph_to, graph_extends, graph_patient}
use Rattle.cc_command.proofs.graph.run_nodes.Goals as goal

pub returns-clause-extends : goal.returns-clause-extends
returns-clause-extends g c =
    let seen = seen_by g.J.Jobs.held g.J.Jobs.total g.J.Jobs.taken g.J.Jobs.load g.J.Jobs.faults in
    graph_extends (length c.args.nodes.now) (rules (graph_plan c.args.nodes.now) c.shows_in-shows.result) (g.J.Jobs.total c.args.seat.now) (state g.H.Host.log g.H.Host.patience seen c.args.host.now nothing_kept c.args.seat.now (record { left = c.args.asking.turns; used = 0 })) (g.H.Host.log c.run_graph.new.host) (g.H.Host.patience c.run_graph.new.host) (seen c.run_graph.new.seat) c.run_graph.new.turns c.run_graph.result c.run_graph.ensures.ran

pub returns-clause-patient : goal.returns-clause-patient
returns-clause-patient g c =
    let seen = seen_by g.J.Jobs.held g.J.Jobs.total g.J.Jobs.taken g.J.Jobs.load g.J.Jobs.faults in
    graph_patient (length c.args.nodes.now) (rules (graph_plan c.args.nodes.now) c.shows_in-shows.result) (g.J.Jobs.total c.args.seat.now) (state g.H.Host.log g.H.Host.patience seen c.args.host.now nothing_kept c.args.seat.now (record { left = c.args.asking.turns; used = 0 })) (g.H.Host.log c.run_graph.new.host) (g.H.Host.patience c.run_graph.new.host) (seen c.run_graph.new.seat) c.run_graph.new.turns c.run_graph.result c.run_graph.ensures.ran

pub returns-clause-ran : goal.returns-clause-ran
returns-clause-ran g c =
    let seen = seen_by g.J.Jobs.held g.J.Jobs.total g.J.Jobs.taken g.J.Jobs.load g.J.Jobs.faults in
    let shown : c.shows_in-shows.result ≡ graph_shows (g.H.Host.listens c.args.host.now) c.args.env.now = c.shows_in-shows.ensures ∙ ap (λ b. graph_shows b c.args.env.now) c.listens.ensures in
    let ran = graph_to (length c.args.nodes.now) (rules (graph_plan c.args.nodes.now) c.shows_in-shows.result) c.run_graph.result (g.J.Jobs.total c.args.seat.now) (g.H.Host.patience c.args.host.now) (g.H.Host.patience c.run_graph.new.host) (g.H.Host.log c.args.host.now) (g.H.Host.log c.run_graph.new.host) (seen c.args.seat.now) (seen c.run_graph.new.seat) (record { left = c.args.asking.turns; used = 0 }) c.run_graph.new.turns c.requires.empty refl c.run_graph.ensures.idle.empty c.run_graph.ensures.ran in (
      c.run_graph.new.turns.left,
      record {
        log = g.H.Host.log c.args.host.now;
        made = c.run_graph.new.turns.used;
        run = rw (sym shown) ran;
        lines = rw (sym shown) c.run_graph.ensures.lines;
        checked = c.run_graph.ensures.checked;
      },
    )

pub returns-clause-graph : goal.returns-clause-graph
returns-clause-graph g c =
    let shown : c.shows_in-shows.result ≡ graph_shows (g.H.Host.listens c.args.host.now) c.args.env.now = c.shows_in-shows.ensures ∙ ap (λ b. graph_shows b c.args.env.now) c.listens.ensures in
    rw (sym shown) c.run_graph.ensures.graph
