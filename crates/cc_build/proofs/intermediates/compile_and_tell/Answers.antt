use Rattle.cc_host.specs.Part.{since}
use Rattle.cc_host.specs.Question.{answers}
use Rattle.std.proofs.Common.{◌∙◌}
use Rattle.cc_flags.specs.Given.{probe_folder}
use Rattle.cc_plan.specs.Questions.{RunAsks}
use Rattle.cc_build.specs.Kept.{left_at}
use Rattle.cc_build.proofs.Growing.{asking_then, asking_before, agrees_earlier}
use Rattle.cc_build.proofs.IntermediateLaws.{compiling_unopened, compiling_stopped, compiling_told}
use Rattle.cc_build.proofs.intermediates.compile_and_tell.Goals as goal

pub returns-in-Err-clause-outcome : goal.returns-in-Err-clause-outcome
returns-in-Err-clause-outcome g c =
    let shared = c.args.shared.now in
    let x = left_at g.J.Jobs.faults g.J.Jobs.taken g.J.Jobs.load c.args.turns.now c.args.seat.now in
    record {
      under = λ look agree.
          compiling_unopened shared.task shared.reads look (g.J.Jobs.total c.args.seat.now) (g.H.Host.patience c.args.host.now) (since (g.H.Host.log c.args.host.now) (g.H.Host.log c.open_run.new.host)) c.in-Err.error x (c.in-Err.ensures.outcome.under look agree);
    }

pub returns-in-Err-run_beside-clause-asks : goal.returns-in-Err-run_beside-clause-asks
returns-in-Err-run_beside-clause-asks g c = asking_before _ _ _ _ g.H.Host.log g.H.Host.patience c.args.host.now c.open_run.new.host c.run_beside.new.host _ _ c.open_run.ensures.asks c.run_beside.ensures.aside

pub returns-in-Err-run_beside-clause-outcome : goal.returns-in-Err-run_beside-clause-outcome
returns-in-Err-run_beside-clause-outcome g c =
    let shared = c.args.shared.now in
    let old = g.H.Host.log c.args.host.now in
    let mid = g.H.Host.log c.open_run.new.host in
    let x = left_at g.J.Jobs.faults g.J.Jobs.taken g.J.Jobs.load c.args.turns.now c.args.seat.now in
    let z = left_at g.J.Jobs.faults g.J.Jobs.taken g.J.Jobs.load c.run_beside.new.turns c.run_beside.new.seat in
    record {
      under = λ look agree.
          compiling_stopped shared.task shared.reads look (g.J.Jobs.total c.args.seat.now) (g.H.Host.patience c.args.host.now) c.in-Ok.cmds old mid c.open_run.ensures.asks.extends (c.in-Ok.ensures.outcome.under look agree)
          (g.H.Host.patience c.open_run.new.host) (g.H.Host.log c.run_beside.new.host) c.in-Err-run_beside.error x z c.open_run.ensures.asks.patient c.run_beside.ensures.aside.extends c.in-Err-run_beside.ensures.outcome;
    }

pub returns-clause-asks : goal.returns-clause-asks
returns-clause-asks g c =
    let task = c.args.shared.now.task in
    let dir = probe_folder task.set.now task.env.now in
    let questions = RunAsks task.set.now task.env.now in
    asking_then g.W.World.steady g.W.World.answer dir questions g.H.Host.log g.H.Host.patience c.args.host.now c.run_beside.new.host c.print_names.new.host _ _ _
    (asking_before g.W.World.steady g.W.World.answer dir questions g.H.Host.log g.H.Host.patience c.args.host.now c.open_run.new.host c.run_beside.new.host _ _ c.open_run.ensures.asks c.run_beside.ensures.aside) c.print_names.ensures.asks

pub returns-clause-outcome : goal.returns-clause-outcome
returns-clause-outcome g c =
    let shared = c.args.shared.now in
    let old = g.H.Host.log c.args.host.now in
    let mid = g.H.Host.log c.open_run.new.host in
    let made = g.H.Host.log c.run_beside.new.host in
    let new = g.H.Host.log c.print_names.new.host in
    let x = left_at g.J.Jobs.faults g.J.Jobs.taken g.J.Jobs.load c.args.turns.now c.args.seat.now in
    let y = left_at g.J.Jobs.faults g.J.Jobs.taken g.J.Jobs.load c.run_beside.new.turns c.run_beside.new.seat in
    let z = left_at g.J.Jobs.faults g.J.Jobs.taken g.J.Jobs.load c.print_names.new.turns c.print_names.new.seat in
    record {
      under = λ look agree.
          let before = agrees_earlier look c.open_run.new.answers c.print_names.new.answers (answers (since made new)) c.print_names.ensures.asks.asks.answered agree in
          compiling_told shared.task shared.reads look (g.J.Jobs.total c.args.seat.now) (g.H.Host.patience c.args.host.now) c.in-Ok.cmds old mid c.open_run.ensures.asks.extends (c.in-Ok.ensures.outcome.under look before)
          (g.H.Host.patience c.open_run.new.host) (g.J.Jobs.total c.run_beside.new.seat) (g.H.Host.patience c.run_beside.new.host) made new c.print_names.result x y z c.open_run.ensures.asks.patient c.run_beside.ensures.total (c.run_beside.ensures.aside.patient ∙ c.open_run.ensures.asks.patient)
          c.run_beside.ensures.aside.extends c.print_names.ensures.asks.extends c.in-Ok-run_beside.ensures.outcome.1 (c.print_names.ensures.outcome.under look agree);
    }
