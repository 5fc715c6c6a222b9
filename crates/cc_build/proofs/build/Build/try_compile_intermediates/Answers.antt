use Rattle.cc_host.specs.Part.{since}
use Rattle.cc_host.specs.Question.{answers}
use Rattle.cc_tool.proofs.SomeLemmas.{some_agree}
use Rattle.cc_build.specs.Course.{course}
use Rattle.cc_build.specs.Went.{means}
use Rattle.cc_build.proofs.IntermediateLaws.{alone_compiled, alone_settled, alone_faults}
use Rattle.cc_build.proofs.PrefixLaws.{compiles_first}
use Rattle.cc_build.proofs.build.Build.try_compile_intermediates.Goals as goal

pub returns-clause-compiled : goal.returns-clause-compiled
returns-clause-compiled g c =
    let part = since (g.H.Host.log c.args.host.now) (g.H.Host.log c.compile_alone.new.host) in
    let before = means c.args.turns (g.J.Jobs.faults c.args.seat.now) (g.J.Jobs.taken c.args.seat.now) (g.J.Jobs.load c.args.seat.now) in
    record {
      under = λ look agree.
          let run = c.compile_alone.ensures.outcome.under look agree in
          let after = means run.0 (g.J.Jobs.faults c.compile_alone.new.seat) (g.J.Jobs.taken c.compile_alone.new.seat) (g.J.Jobs.load c.compile_alone.new.seat) in
          (run.0, alone_compiled c.args.self.now (g.H.Host.listens c.args.host.now) look part (course (g.J.Jobs.total c.args.seat.now) (g.H.Host.patience c.args.host.now) before after) c.compile_alone.result run.1);
    }

pub returns-clause-settled : goal.returns-clause-settled
returns-clause-settled g c =
    let part = since (g.H.Host.log c.args.host.now) (g.H.Host.log c.compile_alone.new.host) in
    let before = means c.args.turns (g.J.Jobs.faults c.args.seat.now) (g.J.Jobs.taken c.args.seat.now) (g.J.Jobs.load c.args.seat.now) in
    let some = some_agree (answers part) c.compile_alone.ensures.asked.once in
    let run = c.compile_alone.ensures.outcome.under some.0 some.1 in
    let after = means run.0 (g.J.Jobs.faults c.compile_alone.new.seat) (g.J.Jobs.taken c.compile_alone.new.seat) (g.J.Jobs.load c.compile_alone.new.seat) in
    alone_settled c.args.self.now (g.H.Host.listens c.args.host.now) some.0 part (course (g.J.Jobs.total c.args.seat.now) (g.H.Host.patience c.args.host.now) before after) c.compile_alone.result run.1

pub returns-clause-faults_last : goal.returns-clause-faults_last
returns-clause-faults_last g c =
    let part = since (g.H.Host.log c.args.host.now) (g.H.Host.log c.compile_alone.new.host) in
    let before = means c.args.turns (g.J.Jobs.faults c.args.seat.now) (g.J.Jobs.taken c.args.seat.now) (g.J.Jobs.load c.args.seat.now) in
    let some = some_agree (answers part) c.compile_alone.ensures.asked.once in
    let run = c.compile_alone.ensures.outcome.under some.0 some.1 in
    let after = means run.0 (g.J.Jobs.faults c.compile_alone.new.seat) (g.J.Jobs.taken c.compile_alone.new.seat) (g.J.Jobs.load c.compile_alone.new.seat) in
    alone_faults c.args.self.now (g.H.Host.listens c.args.host.now) some.0 part (course (g.J.Jobs.total c.args.seat.now) (g.H.Host.patience c.args.host.now) before after) c.compile_alone.result run.1

pub returns-clause-prefix : goal.returns-clause-prefix
returns-clause-prefix g c =
    let part = since (g.H.Host.log c.args.host.now) (g.H.Host.log c.compile_alone.new.host) in
    let before = means c.args.turns (g.J.Jobs.faults c.args.seat.now) (g.J.Jobs.taken c.args.seat.now) (g.J.Jobs.load c.args.seat.now) in
    record {
      under = λ look agree.
          let run = c.compile_alone.ensures.outcome.under look agree in
          let after = means run.0 (g.J.Jobs.faults c.compile_alone.new.seat) (g.J.Jobs.taken c.compile_alone.new.seat) (g.J.Jobs.load c.compile_alone.new.seat) in
          compiles_first c.args.self.now (g.H.Host.listens c.args.host.now) look part (course (g.J.Jobs.total c.args.seat.now) (g.H.Host.patience c.args.host.now) before after) c.compile_alone.result run.1;
    }
