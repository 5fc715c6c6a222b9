use Rattle.cc_host.specs.Part.{since}
use Rattle.cc_host.specs.Question.{answers}
use Rattle.cc_tool.proofs.SomeLemmas.{some_agree}
use Rattle.cc_build.specs.Course.{course}
use Rattle.cc_build.specs.Went.{means}
use Rattle.cc_fresh.specs.Refresh.{files_seen}
use Rattle.cc_fresh.proofs.PromiseLaws.{nothing_runs, faults_end, promised}
use Rattle.cc_fresh.proofs.refresh.try_refresh.Goals as goal

pub returns-clause-settled : goal.returns-clause-settled
returns-clause-settled g c =
    let part = since (g.H.Host.log c.args.host.now) (g.H.Host.log c.refresh.new.host) in
    let before = means c.args.turns (g.J.Jobs.faults c.args.seat.now) (g.J.Jobs.taken c.args.seat.now) (g.J.Jobs.load c.args.seat.now) in
    let some = some_agree (answers part) c.refresh.ensures.asked.once in
    let run = c.refresh.ensures.outcome.under some.0 some.1 in
    let after = means run.0 (g.J.Jobs.faults c.refresh.new.seat) (g.J.Jobs.taken c.refresh.new.seat) (g.J.Jobs.load c.refresh.new.seat) in
    nothing_runs c.args.build.now (g.H.Host.listens c.args.host.now) c.args.output.now c.args.record_path.now c.args.check_objects c.refresh.result (files_seen g.F.Files.reads g.F.Files.faults c.args.files.now c.refresh.new.files) some.0 part (course (g.J.Jobs.total c.args.seat.now) (g.H.Host.patience c.args.host.now) before after) run.1

pub returns-clause-faults_last : goal.returns-clause-faults_last
returns-clause-faults_last g c =
    let part = since (g.H.Host.log c.args.host.now) (g.H.Host.log c.refresh.new.host) in
    let before = means c.args.turns (g.J.Jobs.faults c.args.seat.now) (g.J.Jobs.taken c.args.seat.now) (g.J.Jobs.load c.args.seat.now) in
    let some = some_agree (answers part) c.refresh.ensures.asked.once in
    let run = c.refresh.ensures.outcome.under some.0 some.1 in
    let after = means run.0 (g.J.Jobs.faults c.refresh.new.seat) (g.J.Jobs.taken c.refresh.new.seat) (g.J.Jobs.load c.refresh.new.seat) in
    faults_end c.args.build.now (g.H.Host.listens c.args.host.now) c.args.output.now c.args.record_path.now c.args.check_objects c.refresh.result (files_seen g.F.Files.reads g.F.Files.faults c.args.files.now c.refresh.new.files) some.0 part (course (g.J.Jobs.total c.args.seat.now) (g.H.Host.patience c.args.host.now) before after) run.1

pub returns-clause-promises : goal.returns-clause-promises
returns-clause-promises g c =
    let part = since (g.H.Host.log c.args.host.now) (g.H.Host.log c.refresh.new.host) in
    let before = means c.args.turns (g.J.Jobs.faults c.args.seat.now) (g.J.Jobs.taken c.args.seat.now) (g.J.Jobs.load c.args.seat.now) in
    record {
      under = λ look agree.
          let run = c.refresh.ensures.outcome.under look agree in
          let after = means run.0 (g.J.Jobs.faults c.refresh.new.seat) (g.J.Jobs.taken c.refresh.new.seat) (g.J.Jobs.load c.refresh.new.seat) in
          (run.0, promised c.args.build.now (g.H.Host.listens c.args.host.now) c.args.output.now c.args.record_path.now c.args.check_objects c.refresh.result (files_seen g.F.Files.reads g.F.Files.faults c.args.files.now c.refresh.new.files) look part (course (g.J.Jobs.total c.args.seat.now) (g.H.Host.patience c.args.host.now) before after) run.1);
    }
