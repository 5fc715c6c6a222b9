use Rattle.cc_host.specs.Part.{since}
use Rattle.cc_host.specs.Question.{answers}
use Rattle.cc_tool.proofs.SomeLemmas.{some_agree}
use Rattle.cc_build.specs.Course.{course}
use Rattle.cc_build.specs.Went.{means}
use Rattle.cc_build.proofs.PromiseLaws.{built_so, promised, nothing_runs, faults_end}
use Rattle.cc_build.proofs.build.Build.try_compile.Goals as goal

pub returns-clause-built : goal.returns-clause-built
returns-clause-built g c =
    let part = since (g.H.Host.log c.args.host.now) (g.H.Host.log c.compile.new.host) in
    let before = means c.args.turns (g.J.Jobs.faults c.args.seat.now) (g.J.Jobs.taken c.args.seat.now) (g.J.Jobs.load c.args.seat.now) in
    record {
      under = λ look agree.
          let run = c.compile.ensures.outcome.under look agree in
          let after = means run.0 (g.J.Jobs.faults c.compile.new.seat) (g.J.Jobs.taken c.compile.new.seat) (g.J.Jobs.load c.compile.new.seat) in
          (run.0, built_so c.args.self.now (g.H.Host.listens c.args.host.now) c.args.output.now c.compile.result look part (course (g.J.Jobs.total c.args.seat.now) (g.H.Host.patience c.args.host.now) before after) run.1);
    }

pub returns-clause-promises : goal.returns-clause-promises
returns-clause-promises g c =
    let part = since (g.H.Host.log c.args.host.now) (g.H.Host.log c.compile.new.host) in
    let before = means c.args.turns (g.J.Jobs.faults c.args.seat.now) (g.J.Jobs.taken c.args.seat.now) (g.J.Jobs.load c.args.seat.now) in
    record {
      under = λ look agree.
          let run = c.compile.ensures.outcome.under look agree in
          let after = means run.0 (g.J.Jobs.faults c.compile.new.seat) (g.J.Jobs.taken c.compile.new.seat) (g.J.Jobs.load c.compile.new.seat) in
          (run.0, promised c.args.self.now (g.H.Host.listens c.args.host.now) c.args.output.now c.compile.result look part (course (g.J.Jobs.total c.args.seat.now) (g.H.Host.patience c.args.host.now) before after) run.1);
    }

pub returns-clause-settled : goal.returns-clause-settled
returns-clause-settled g c =
    let part = since (g.H.Host.log c.args.host.now) (g.H.Host.log c.compile.new.host) in
    let before = means c.args.turns (g.J.Jobs.faults c.args.seat.now) (g.J.Jobs.taken c.args.seat.now) (g.J.Jobs.load c.args.seat.now) in
    let some = some_agree (answers part) c.compile.ensures.asked.once in
    let run = c.compile.ensures.outcome.under some.0 some.1 in
    let after = means run.0 (g.J.Jobs.faults c.compile.new.seat) (g.J.Jobs.taken c.compile.new.seat) (g.J.Jobs.load c.compile.new.seat) in
    nothing_runs c.args.self.now (g.H.Host.listens c.args.host.now) c.args.output.now c.compile.result some.0 part (course (g.J.Jobs.total c.args.seat.now) (g.H.Host.patience c.args.host.now) before after) run.1

pub returns-clause-faults_last : goal.returns-clause-faults_last
returns-clause-faults_last g c =
    let part = since (g.H.Host.log c.args.host.now) (g.H.Host.log c.compile.new.host) in
    let before = means c.args.turns (g.J.Jobs.faults c.args.seat.now) (g.J.Jobs.taken c.args.seat.now) (g.J.Jobs.load c.args.seat.now) in
    let some = some_agree (answers part) c.compile.ensures.asked.once in
    let run = c.compile.ensures.outcome.under some.0 some.1 in
    let after = means run.0 (g.J.Jobs.faults c.compile.new.seat) (g.J.Jobs.taken c.compile.new.seat) (g.J.Jobs.load c.compile.new.seat) in
    faults_end c.args.self.now (g.H.Host.listens c.args.host.now) c.args.output.now c.compile.result some.0 part (course (g.J.Jobs.total c.args.seat.now) (g.H.Host.patience c.args.host.now) before after) run.1
