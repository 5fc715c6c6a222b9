use Rattle.std.proofs.Common.{arith}
use Rattle.std.proofs.lemmas.Result.{err_from_is_err_and}
use Rattle.cc_build.specs.Kept.{left_at}
use Rattle.cc_build.specs.Went.{terms}
use Rattle.cc_build.proofs.Doing.{done_more, done_refused}
use Rattle.cc_build.proofs.Keeping.{aside_then}
use Rattle.cc_build.proofs.stage.do_stages.Goals as goal

pub returns-in_err-do_stage-clause-outcome : goal.returns-in_err-do_stage-clause-outcome
returns-in_err-do_stage-clause-outcome g c =
    let p = err_from_is_err_and c.from_residual.result c.from_residual.ensures.1 in
    let t = terms c.args.reporting.shows (g.J.Jobs.total c.args.seat.now) (g.H.Host.patience c.args.host.now) in
    let x = left_at g.J.Jobs.faults g.J.Jobs.taken g.J.Jobs.load c.args.turns.now c.args.seat.now in
    let y = left_at g.J.Jobs.faults g.J.Jobs.taken g.J.Jobs.load c.loop-stage.turns c.loop-stage.seat in
    let z = left_at g.J.Jobs.faults g.J.Jobs.taken g.J.Jobs.load c.do_stage.new.turns c.do_stage.new.seat in
    rw (p.1, p.2) (done_refused c.args.stages.now c.loop-stage.stage-index c.stage-item.result c.loop-stage-test.true c.stage-item.is t (g.H.Host.log c.args.host.now) (g.H.Host.log c.loop-stage.host) (g.H.Host.log c.do_stage.new.host) x y z c.loop-stage.invariant.aside.extends c.do_stage.ensures.aside.extends c.loop-stage.invariant.went c.in_err-do_stage.field-0.0
    (rw (← c.loop-stage.invariant.total, ← c.loop-stage.invariant.aside.patient) c.in_err-do_stage.ensures.outcome))

pub loop-stage-preserved : goal.loop-stage-preserved
loop-stage-preserved g c =
    let t = terms c.args.reporting.shows (g.J.Jobs.total c.args.seat.now) (g.H.Host.patience c.args.host.now) in
    let x = left_at g.J.Jobs.faults g.J.Jobs.taken g.J.Jobs.load c.args.turns.now c.args.seat.now in
    let y = left_at g.J.Jobs.faults g.J.Jobs.taken g.J.Jobs.load c.loop-stage.turns c.loop-stage.seat in
    let z = left_at g.J.Jobs.faults g.J.Jobs.taken g.J.Jobs.load c.do_stage.new.turns c.do_stage.new.seat in
    record {
      idle = c.do_stage.ensures.idle;
      total = rw c.do_stage.ensures.total c.loop-stage.invariant.total;
      aside = aside_then g.H.Host.log g.H.Host.patience c.args.host.now c.loop-stage.host c.do_stage.new.host c.loop-stage.invariant.aside c.do_stage.ensures.aside;
      sum = omega arith;
      went = done_more c.args.stages.now c.loop-stage.stage-index c.stage-item.result c.loop-stage-test.true c.stage-item.is t (g.H.Host.log c.args.host.now) (g.H.Host.log c.loop-stage.host) (g.H.Host.log c.do_stage.new.host) x y z c.loop-stage.invariant.aside.extends c.do_stage.ensures.aside.extends c.loop-stage.invariant.went
          (rw (← c.loop-stage.invariant.total, ← c.loop-stage.invariant.aside.patient) c.in_ok-do_stage.ensures.outcome.1);
    }
