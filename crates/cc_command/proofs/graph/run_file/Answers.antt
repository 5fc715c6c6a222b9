use Rattle.std.proofs.Common.{inl, Some, refl, sym, ◌∙◌, ap}
use Rattle.std.proofs.lemmas.Result.{err_from_is_err_and}
use Rattle.cc_host.specs.Part.{since}
use Rattle.cc_build.specs.Course.{course}
use Rattle.cc_build.specs.Went.{means}
use Rattle.cc_command.specs.Graphed.{shelf}
use Rattle.cc_command.proofs.GraphedLaws.{heard_so, held_so, unread_so}
use Rattle.cc_command.proofs.graph.run_file.Goals as goal

pub returns-in_err-env-clause-answer : goal.returns-in_err-env-clause-answer
returns-in_err-env-clause-answer g c =
    let p = err_from_is_err_and c.from_residual.result c.from_residual.ensures.1 in
    rw (p.1, p.2) (c.args.asking.turns, inl (record { error = c.in_err-env.field-0.0; is = refl; why = c.in_err-env.ensures.refused; reads = refl; idle = refl }))

pub returns-in_err-held-clause-answer : goal.returns-in_err-held-clause-answer
returns-in_err-held-clause-answer g c =
    let p = err_from_is_err_and c.from_residual-in_err-held.result c.from_residual-in_err-held.ensures.1 in
    let before = means c.args.asking.turns (g.J.Jobs.faults c.args.seat.now) (g.J.Jobs.taken c.args.seat.now) (g.J.Jobs.load c.args.seat.now) in
    rw (p.1, p.2) (
      c.args.asking.turns,
      unread_so (g.H.Host.listens c.args.host.now) c.args.asking.path.now c.in_ok-env.env (since (g.H.Host.log c.args.host.now) (g.H.Host.log c.list_vars.new.host)) (shelf g.F.Files.reads g.F.Files.faults c.args.files.now) (shelf g.F.Files.reads g.F.Files.faults c.read_file.new.files) c.in_err-held.field-0.0
          (course (g.J.Jobs.total c.args.seat.now) (g.H.Host.patience c.args.host.now) before before) c.in_ok-env.ensures.listed c.in_err-held.ensures.unread c.in_err-held.ensures.refused refl,
    )

pub returns-in_err-nodes-clause-answer : goal.returns-in_err-nodes-clause-answer
returns-in_err-nodes-clause-answer g c =
    let p = err_from_is_err_and c.from_residual-in_err-nodes.result c.from_residual-in_err-nodes.ensures.1 in
    let before = means c.args.asking.turns (g.J.Jobs.faults c.args.seat.now) (g.J.Jobs.taken c.args.seat.now) (g.J.Jobs.load c.args.seat.now) in
    rw (p.1, p.2) (
      c.args.asking.turns,
      held_so (g.H.Host.listens c.args.host.now) c.args.asking.path.now c.in_ok-env.env c.in_ok-held.held (since (g.H.Host.log c.args.host.now) (g.H.Host.log c.list_vars.new.host)) (shelf g.F.Files.reads g.F.Files.faults c.args.files.now) (shelf g.F.Files.reads g.F.Files.faults c.read_file.new.files) c.in_err-nodes.field-0.0
          (course (g.J.Jobs.total c.args.seat.now) (g.H.Host.patience c.args.host.now) before before) c.in_ok-env.ensures.listed c.in_ok-held.ensures.read c.in_err-nodes.ensures.err refl,
    )

pub returns-clause-answer : goal.returns-clause-answer
returns-clause-answer g c =
    let run = c.run_and_print.ensures.answer in
    let before = means c.args.asking.turns (g.J.Jobs.faults c.args.seat.now) (g.J.Jobs.taken c.args.seat.now) (g.J.Jobs.load c.args.seat.now) in
    let after = means run.0 (g.J.Jobs.faults c.run_and_print.new.seat) (g.J.Jobs.taken c.run_and_print.new.seat) (g.J.Jobs.load c.run_and_print.new.seat) in (
      run.0,
      heard_so (g.H.Host.listens c.args.host.now) (g.H.Host.listens c.list_vars.new.host) c.args.asking.path.now c.in_ok-env.env c.deref.result.now c.in_ok-held.held (g.J.Jobs.total c.args.seat.now) (g.H.Host.patience c.args.host.now) (g.H.Host.patience c.list_vars.new.host) before after (g.H.Host.log c.args.host.now) (g.H.Host.log c.list_vars.new.host) (g.H.Host.log c.run_and_print.new.host)
          (shelf g.F.Files.reads g.F.Files.faults c.args.files.now) (shelf g.F.Files.reads g.F.Files.faults c.read_file.new.files) c.run_and_print.result c.list_vars.ensures.extends c.run_and_print.ensures.extends c.in_ok-env.ensures.listed c.list_vars.ensures.ear c.list_vars.ensures.patient c.in_ok-held.ensures.read (c.in_ok-nodes.ensures.ok ∙ ap Some (sym c.deref.ensures.value)) run.1,
    )
