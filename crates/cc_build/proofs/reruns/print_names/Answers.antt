use Rattle.std.proofs.Common.{◌∙◌, None, refl, sym, ap}
use Rattle.std.proofs.lemmas.Result.{err_from_is_err_and}
use Rattle.cc_host.specs.Part.{since}
use Rattle.cc_build.specs.Error.{no_memory}
use Rattle.cc_build.specs.Kept.{left_at}
use Rattle.cc_build.specs.Refusal.{plan_error}
use Rattle.cc_build.specs.Seen.{stages_seen}
use Rattle.cc_build.specs.Stage.{name_stages}
use Rattle.cc_build.specs.Way.{all_firsts}
use Rattle.cc_build.specs.Went.{terms}
use Rattle.cc_build.proofs.Going.{same_patience, phase_wanting}
use Rattle.cc_build.proofs.Growing.{asking_before}
use Rattle.cc_build.proofs.PhaseLaws.{phase_done}
use Rattle.cc_build.proofs.RerunLaws.{named_stages}
use Rattle.cc_build.proofs.reruns.print_names.Goals as goal

pub returns-in_err-names-clause-outcome : goal.returns-in_err-names-clause-outcome
returns-in_err-names-clause-outcome g c =
    let p = err_from_is_err_and c.from_residual.result c.from_residual.ensures.1 in
    let task = c.args.shared.now.task in
    let t = terms task.reporting.shows (g.J.Jobs.total c.args.seat.now) (g.H.Host.patience c.args.host.now) in
    let x = left_at g.J.Jobs.faults g.J.Jobs.taken g.J.Jobs.load c.args.turns.now c.args.seat.now in
    let part = since (g.H.Host.log c.args.host.now) (g.H.Host.log c.plan_names.new.host) in
    rw (p.1, p.2)
    (record {
      under = λ look agree. (all_firsts, ((λ h. refl), phase_wanting t (plan_error task.set.now task.env.now task.output.now) None (name_stages task.set.now task.env.now c.args.shared.now.reads look all_firsts) part no_memory x c.plan_names.ensures.quiet refl));
    })

pub returns-in_err-stages-clause-outcome : goal.returns-in_err-stages-clause-outcome
returns-in_err-stages-clause-outcome g c =
    let p = err_from_is_err_and c.from_residual-in_err-stages.result c.from_residual-in_err-stages.ensures.1 in
    let task = c.args.shared.now.task in
    let t = terms task.reporting.shows (g.J.Jobs.total c.args.seat.now) (g.H.Host.patience c.args.host.now) in
    let x = left_at g.J.Jobs.faults g.J.Jobs.taken g.J.Jobs.load c.args.turns.now c.args.seat.now in
    let part = since (g.H.Host.log c.args.host.now) (g.H.Host.log c.plan_names.new.host) in
    rw (p.1, p.2)
    (record {
      under = λ look agree. (all_firsts, ((λ h. refl), phase_wanting t (plan_error task.set.now task.env.now task.output.now) None (name_stages task.set.now task.env.now c.args.shared.now.reads look all_firsts) part no_memory x c.plan_names.ensures.quiet refl));
    })

pub returns-clause-asks : goal.returns-clause-asks
returns-clause-asks g c = asking_before _ _ _ _ g.H.Host.log g.H.Host.patience c.args.host.now c.plan_names.new.host c.do_stages.new.host _ _ c.plan_names.ensures.asks c.do_stages.ensures.aside

pub returns-clause-outcome : goal.returns-clause-outcome
returns-clause-outcome g c =
    let task = c.args.shared.now.task in
    let old = g.H.Host.log c.args.host.now in
    let mid = g.H.Host.log c.plan_names.new.host in
    let new = g.H.Host.log c.do_stages.new.host in
    let patience = g.H.Host.patience c.args.host.now in
    let t = terms task.reporting.shows (g.J.Jobs.total c.args.seat.now) patience in
    let x = left_at g.J.Jobs.faults g.J.Jobs.taken g.J.Jobs.load c.args.turns.now c.args.seat.now in
    let z = left_at g.J.Jobs.faults g.J.Jobs.taken g.J.Jobs.load c.do_stages.new.turns c.do_stages.new.seat in
    record {
      under = λ look agree.
          let printed = c.in_ok-stages.ensures in (
            printed.0,
            (
              printed.1.0,
              phase_done t (plan_error task.set.now task.env.now task.output.now) None (name_stages task.set.now task.env.now c.args.shared.now.reads look printed.0) old mid new x c.plan_names.ensures.asks.extends c.do_stages.ensures.aside.extends c.plan_names.ensures.quiet refl (stages_seen c.deref.result.now) c.do_stages.result z
                  (named_stages task.set.now task.env.now c.args.shared.now.reads look _ _ printed.0 _ _ (stages_seen c.deref.result.now) (ap stages_seen c.deref.ensures.value ∙ printed.1.1) c.names_alone-lines.ensures.warnings c.names_alone-lines.ensures.links (c.in_ok-names.ensures.planned.is look agree ∙ sym c.names_alone-lines.ensures.names))
                  (same_patience task.reporting.shows (g.J.Jobs.total c.args.seat.now) (g.H.Host.patience c.plan_names.new.host) patience None (stages_seen c.deref.result.now) (since mid new) c.do_stages.result x z c.plan_names.ensures.asks.patient c.do_stages.ensures.outcome),
            ),
          );
    }
