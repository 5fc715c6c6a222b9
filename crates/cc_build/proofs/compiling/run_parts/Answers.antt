use Rattle.cc_flags.specs.Given.{probe_folder}
use Rattle.cc_plan.specs.Questions.{RunAsks}
use Rattle.cc_host.specs.Question.{answers}
use Rattle.cc_host.specs.Part.{since}
use Rattle.cc_build.specs.Kept.{left_at}
use Rattle.cc_build.proofs.Growing.{agrees_earlier, asking_aside, asking_then}
use Rattle.cc_build.proofs.PartLaws.{commands_stopped, library_stopped, links_ended}
use Rattle.cc_build.proofs.PhaseLaws.{own_links}
use Rattle.std.proofs.Common.{sym, subst}
use Rattle.cc_build.specs.Stage.{IsRun}
use Rattle.cc_build.proofs.ToldLaws.{run_is}
use Rattle.cc_build.proofs.compiling.run_parts.Goals as goal

pub print_links-requires-clause-plain : goal.print_links-requires-clause-plain
print_links-requires-clause-plain g c = λ κs lives. subst (IsRun c.args.shared.now.task.set.now) (sym c.requires.reads) (run_is c.args.shared.now.task.set.now)

pub returns-in-Err-clause-asks : goal.returns-in-Err-clause-asks
returns-in-Err-clause-asks g c = asking_aside _ _ _ _ g.H.Host.log g.H.Host.patience c.args.host.now c.run_beside.new.host _ c.run_beside.ensures.aside

pub returns-in-Err-clause-outcome : goal.returns-in-Err-clause-outcome
returns-in-Err-clause-outcome g c =
    let x = left_at g.J.Jobs.faults g.J.Jobs.taken g.J.Jobs.load c.args.turns.now c.args.seat.now in
    let z = left_at g.J.Jobs.faults g.J.Jobs.taken g.J.Jobs.load c.run_beside.new.turns c.run_beside.new.seat in
    record {
      under = λ look agree.
          commands_stopped c.args.shared.now.task look c.args.cmds.items (g.J.Jobs.total c.args.seat.now) (g.H.Host.patience c.args.host.now) (since (g.H.Host.log c.args.host.now) (g.H.Host.log c.run_beside.new.host)) c.in-Err.error x z c.in-Err.ensures.outcome;
    }

pub returns-in-Err-archive_objects-clause-asks : goal.returns-in-Err-archive_objects-clause-asks
returns-in-Err-archive_objects-clause-asks g c =
    let dir = probe_folder c.args.shared.now.task.set.now c.args.shared.now.task.env.now in
    let questions = RunAsks c.args.shared.now.task.set.now c.args.shared.now.task.env.now in
    asking_then g.W.World.steady g.W.World.answer dir questions g.H.Host.log g.H.Host.patience c.args.host.now c.run_beside.new.host c.archive_objects.new.host _ _ _
    (asking_aside g.W.World.steady g.W.World.answer dir questions g.H.Host.log g.H.Host.patience c.args.host.now c.run_beside.new.host _ c.run_beside.ensures.aside) c.archive_objects.ensures.asks

pub returns-in-Err-archive_objects-clause-outcome : goal.returns-in-Err-archive_objects-clause-outcome
returns-in-Err-archive_objects-clause-outcome g c =
    let old = g.H.Host.log c.args.host.now in
    let mid = g.H.Host.log c.run_beside.new.host in
    let new = g.H.Host.log c.archive_objects.new.host in
    let x = left_at g.J.Jobs.faults g.J.Jobs.taken g.J.Jobs.load c.args.turns.now c.args.seat.now in
    let y = left_at g.J.Jobs.faults g.J.Jobs.taken g.J.Jobs.load c.run_beside.new.turns c.run_beside.new.seat in
    let z = left_at g.J.Jobs.faults g.J.Jobs.taken g.J.Jobs.load c.archive_objects.new.turns c.archive_objects.new.seat in
    record {
      under = λ look agree.
          library_stopped c.args.shared.now.task look c.args.cmds.items (g.J.Jobs.total c.args.seat.now) (g.H.Host.patience c.args.host.now) old mid x y c.run_beside.ensures.aside.extends c.in-Ok.ensures.outcome.1
          (g.J.Jobs.total c.run_beside.new.seat) (g.H.Host.patience c.run_beside.new.host) new c.in-Err-archive_objects.error z c.run_beside.ensures.total c.run_beside.ensures.aside.patient c.archive_objects.ensures.asks.extends
          (c.in-Err-archive_objects.ensures.outcome.under look agree);
    }

pub returns-clause-asks : goal.returns-clause-asks
returns-clause-asks g c =
    let dir = probe_folder c.args.shared.now.task.set.now c.args.shared.now.task.env.now in
    let questions = RunAsks c.args.shared.now.task.set.now c.args.shared.now.task.env.now in
    asking_then g.W.World.steady g.W.World.answer dir questions g.H.Host.log g.H.Host.patience c.args.host.now c.archive_objects.new.host c.print_links.new.host _ _ _
    (asking_then g.W.World.steady g.W.World.answer dir questions g.H.Host.log g.H.Host.patience c.args.host.now c.run_beside.new.host c.archive_objects.new.host _ _ _
    (asking_aside g.W.World.steady g.W.World.answer dir questions g.H.Host.log g.H.Host.patience c.args.host.now c.run_beside.new.host _ c.run_beside.ensures.aside) c.archive_objects.ensures.asks)
    c.print_links.ensures.asks

pub returns-clause-outcome : goal.returns-clause-outcome
returns-clause-outcome g c =
    let old = g.H.Host.log c.args.host.now in
    let mid = g.H.Host.log c.run_beside.new.host in
    let made = g.H.Host.log c.archive_objects.new.host in
    let new = g.H.Host.log c.print_links.new.host in
    let x = left_at g.J.Jobs.faults g.J.Jobs.taken g.J.Jobs.load c.args.turns.now c.args.seat.now in
    let y = left_at g.J.Jobs.faults g.J.Jobs.taken g.J.Jobs.load c.run_beside.new.turns c.run_beside.new.seat in
    let z = left_at g.J.Jobs.faults g.J.Jobs.taken g.J.Jobs.load c.archive_objects.new.turns c.archive_objects.new.seat in
    let end = left_at g.J.Jobs.faults g.J.Jobs.taken g.J.Jobs.load c.print_links.new.turns c.print_links.new.seat in
    record {
      under = λ look agree.
          let among = agrees_earlier look c.archive_objects.new.answers c.print_links.new.answers (answers (since made new)) c.print_links.ensures.asks.asks.answered agree in
          links_ended c.args.shared.now.task look c.args.cmds.items (g.J.Jobs.total c.args.seat.now) (g.H.Host.patience c.args.host.now) old mid x y c.run_beside.ensures.aside.extends c.in-Ok.ensures.outcome.1
          (g.J.Jobs.total c.run_beside.new.seat) (g.H.Host.patience c.run_beside.new.host) (g.J.Jobs.total c.archive_objects.new.seat) (g.H.Host.patience c.archive_objects.new.host) made new _ c.print_links.result z end
          c.run_beside.ensures.total c.run_beside.ensures.aside.patient c.archive_objects.ensures.total c.archive_objects.ensures.asks.patient c.archive_objects.ensures.asks.extends c.print_links.ensures.asks.extends
          (c.in-Ok-archive_objects.ensures.outcome.under look among)
          (own_links c.args.shared.now.task c.args.shared.now.reads c.args.shared.now.sources.now.name c.args.shared.now.sources.now.library _ look _ _ c.requires.reads c.requires.name c.requires.library (c.print_links.ensures.outcome.under look agree));
    }
