use Rattle.std.proofs.Common.{refl, sym, subst}
use Rattle.cc_host.specs.Part.{since}
use Rattle.cc_build.specs.Course.{course}
use Rattle.cc_build.specs.Went.{means}
use Rattle.cc_command.specs.Graphed.{shelf, AnswersGraph}
use Rattle.cc_command.proofs.graph.graph_job.Goals as goal

pub returns-in-Err-clause-answer : goal.returns-in-Err-clause-answer
returns-in-Err-clause-answer g c =
    let before = means c.args.invocation.turns (g.J.Jobs.faults c.args.seat.now) (g.J.Jobs.taken c.args.seat.now) (g.J.Jobs.load c.args.seat.now) in
    let files = shelf g.F.Files.reads g.F.Files.faults c.args.files.now in (
      c.args.invocation.turns,
      subst (λ w. AnswersGraph (g.H.Host.listens c.args.host.now) w files files c.refuse_word.result (since (g.H.Host.log c.args.host.now) (g.H.Host.log c.refuse_word.new.host)) (course (g.J.Jobs.total c.args.seat.now) (g.H.Host.patience c.args.host.now) before before)) (sym c.in-Err.ensures.err)
          (c.refuse_word.ensures.answer, refl, refl),
    )
