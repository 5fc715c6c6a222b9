use Rattle.std.proofs.Common.{Ok, refl}
use Rattle.std.proofs.lemmas.Result.{err_from_is_err_and}
use Rattle.cc_build.specs.Course.{course}
use Rattle.cc_build.specs.Went.{means}
use Rattle.cc_command.proofs.GraphedLaws.{unprinted_so, printed_so}
use Rattle.cc_command.proofs.graph.run_and_print.Goals as goal

pub returns-in_err-print_ends-in-Ok-clause-answer : goal.returns-in_err-print_ends-in-Ok-clause-answer
returns-in_err-print_ends-in-Ok-clause-answer g c =
    let p = err_from_is_err_and c.from_residual-in_err-print_ends-in-Ok.result c.from_residual-in_err-print_ends-in-Ok.ensures.1 in
    let ran = c.in-Ok.ensures.ran in
    let at = course (g.J.Jobs.total c.args.seat.now) (g.H.Host.patience c.args.host.now) (means c.args.asking.turns (g.J.Jobs.faults c.args.seat.now) (g.J.Jobs.taken c.args.seat.now) (g.J.Jobs.load c.args.seat.now)) (means ran.0 (g.J.Jobs.faults c.run_nodes.new.seat) (g.J.Jobs.taken c.run_nodes.new.seat) (g.J.Jobs.load c.run_nodes.new.seat)) in
    rw (p.1, p.2)
    (ran.0, unprinted_so (g.H.Host.listens c.args.host.now) c.args.asking.path.now c.args.env.now c.args.nodes.now c.in-Ok.ends (g.H.Host.log c.args.host.now) (g.H.Host.log c.run_nodes.new.host) (g.H.Host.log c.print_ends.new.host) at c.run_nodes.ensures.extends c.print_ends.ensures.aside.extends ran.1 c.in-Ok.ensures.graph c.in_err-print_ends-in-Ok.field-0.0 c.in_err-print_ends-in-Ok.ensures.outcome)

pub returns-in_ok-print_ends-in-Ok-clause-answer : goal.returns-in_ok-print_ends-in-Ok-clause-answer
returns-in_ok-print_ends-in-Ok-clause-answer g c =
    let ran = c.in-Ok.ensures.ran in
    let at = course (g.J.Jobs.total c.args.seat.now) (g.H.Host.patience c.args.host.now) (means c.args.asking.turns (g.J.Jobs.faults c.args.seat.now) (g.J.Jobs.taken c.args.seat.now) (g.J.Jobs.load c.args.seat.now)) (means ran.0 (g.J.Jobs.faults c.run_nodes.new.seat) (g.J.Jobs.taken c.run_nodes.new.seat) (g.J.Jobs.load c.run_nodes.new.seat)) in (
      ran.0,
      printed_so (g.H.Host.listens c.args.host.now) c.args.asking.path.now c.args.env.now c.args.nodes.now c.in-Ok.ends (g.H.Host.log c.args.host.now) (g.H.Host.log c.run_nodes.new.host) (g.H.Host.log c.print_ends.new.host) at c.run_nodes.ensures.extends c.print_ends.ensures.aside.extends ran.1 c.in-Ok.ensures.graph c.in_ok-failure-in-Ok.failure c.requires.listed c.in_ok-failure-in-Ok.ensures (Ok c.in_ok-print_ends-in-Ok.field-0) refl
          c.in_ok-print_ends-in-Ok.ensures.outcome,
    )
