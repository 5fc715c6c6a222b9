use Rattle.cc_host.specs.Part.{since}
use Rattle.cc_host.specs.Question.{answers}
use Rattle.cc_flags.specs.Given.{probe_folder}
use Rattle.cc_plan.specs.Questions.{RunAsks}
use Rattle.cc_build.specs.Kept.{left_at}
use Rattle.cc_build.proofs.Growing.{asking_then, agrees_earlier}
use Rattle.cc_build.proofs.RerunLaws.{writing_stopped, writing_told}
use Rattle.cc_build.proofs.archiving.archive_and_tell.Goals as goal

pub returns-in-Err-clause-outcome : goal.returns-in-Err-clause-outcome
returns-in-Err-clause-outcome g c =
    let shared = c.args.shared.now in
    let x = left_at g.J.Jobs.faults g.J.Jobs.taken g.J.Jobs.load c.args.turns.now c.args.seat.now in
    let z = left_at g.J.Jobs.faults g.J.Jobs.taken g.J.Jobs.load c.archive_objects.new.turns c.archive_objects.new.seat in
    record {
      under = λ look agree.
          writing_stopped shared.task shared.reads look (g.J.Jobs.total c.args.seat.now) (g.H.Host.patience c.args.host.now) (since (g.H.Host.log c.args.host.now) (g.H.Host.log c.archive_objects.new.host)) c.in-Err.error x z (c.in-Err.ensures.outcome.under look agree);
    }

pub returns-clause-asks : goal.returns-clause-asks
returns-clause-asks g c =
    let task = c.args.shared.now.task in
    asking_then g.W.World.steady g.W.World.answer (probe_folder task.set.now task.env.now) (RunAsks task.set.now task.env.now) g.H.Host.log g.H.Host.patience c.args.host.now c.archive_objects.new.host c.print_names.new.host _ _ _ c.archive_objects.ensures.asks c.print_names.ensures.asks

pub returns-clause-outcome : goal.returns-clause-outcome
returns-clause-outcome g c =
    let shared = c.args.shared.now in
    let old = g.H.Host.log c.args.host.now in
    let mid = g.H.Host.log c.archive_objects.new.host in
    let new = g.H.Host.log c.print_names.new.host in
    let x = left_at g.J.Jobs.faults g.J.Jobs.taken g.J.Jobs.load c.args.turns.now c.args.seat.now in
    let y = left_at g.J.Jobs.faults g.J.Jobs.taken g.J.Jobs.load c.archive_objects.new.turns c.archive_objects.new.seat in
    let z = left_at g.J.Jobs.faults g.J.Jobs.taken g.J.Jobs.load c.print_names.new.turns c.print_names.new.seat in
    record {
      under = λ look agree.
          writing_told shared.task shared.reads look (g.J.Jobs.total c.args.seat.now) (g.H.Host.patience c.args.host.now) (g.J.Jobs.total c.archive_objects.new.seat) (g.H.Host.patience c.archive_objects.new.host) old mid new x y z _ c.archive_objects.ensures.asks.extends c.print_names.ensures.asks.extends
          c.archive_objects.ensures.total c.archive_objects.ensures.asks.patient c.print_names.result (c.print_names.ensures.outcome.under look agree)
          (c.in-Ok.ensures.outcome.under look (agrees_earlier look c.archive_objects.new.answers c.print_names.new.answers (answers (since mid new)) c.print_names.ensures.asks.asks.answered agree));
    }
