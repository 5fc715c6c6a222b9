use Rattle.cc_build.specs.Way.{all_firsts}
use Rattle.cc_build.specs.Phases.{cargo_stages}
use Rattle.std.proofs.Common.{◌∙◌, None, refl, ap}
use Rattle.std.proofs.lemmas.Result.{err_from_is_err_and}
use Rattle.cc_host.specs.Part.{since}
use Rattle.cc_plan.specs.Refusal.{link_refusal}
use Rattle.cc_build.specs.Error.{no_memory}
use Rattle.cc_build.specs.Kept.{left_at}
use Rattle.cc_build.specs.Refusal.{plan_error}
use Rattle.cc_build.specs.Seen.{stages_seen}
use Rattle.cc_build.specs.Went.{terms}
use Rattle.cc_build.proofs.Going.{same_patience, asked_halted, phase_wanting}
use Rattle.cc_build.proofs.Growing.{asking_before}
use Rattle.cc_build.proofs.PhaseLaws.{phase_done, line_stages}
use Rattle.cc_build.proofs.phases.print_links.Goals as goal

pub returns-in-Err-clause-outcome : goal.returns-in-Err-clause-outcome
returns-in-Err-clause-outcome g c =
    let old = g.H.Host.log c.args.host.now in
    let total = g.J.Jobs.total c.args.seat.now in
    let patience = g.H.Host.patience c.args.host.now in
    let t = terms c.args.shared.now.task.reporting.shows total patience in
    let x = left_at g.J.Jobs.faults g.J.Jobs.taken g.J.Jobs.load c.args.turns.now c.args.seat.now in
    let part = since old (g.H.Host.log c.plan_lines.new.host) in
    record {
      under = λ look agree. (all_firsts, ((λ h. refl), asked_halted t (plan_error c.args.shared.now.task.set.now c.args.shared.now.task.env.now c.args.shared.now.task.output.now) (link_refusal c.args.shared.now.task.set.now c.args.shared.now.task.env.now look) (cargo_stages c.args.shared.now.task c.args.shared.now.reads c.args.shared.now.sources.now.name c.args.shared.now.sources.now.library all_firsts look) part c.in-Err.error x c.plan_lines.ensures.quiet (c.in-Err.ensures.refused.under look agree)));
    }

pub returns-in_err-stages-clause-outcome : goal.returns-in_err-stages-clause-outcome
returns-in_err-stages-clause-outcome g c =
    let p = err_from_is_err_and c.from_residual.result c.from_residual.ensures.1 in
    let old = g.H.Host.log c.args.host.now in
    let total = g.J.Jobs.total c.args.seat.now in
    let patience = g.H.Host.patience c.args.host.now in
    let t = terms c.args.shared.now.task.reporting.shows total patience in
    let x = left_at g.J.Jobs.faults g.J.Jobs.taken g.J.Jobs.load c.args.turns.now c.args.seat.now in
    let part = since old (g.H.Host.log c.plan_lines.new.host) in
    rw (p.1, p.2)
    (record {
      under = λ look agree. (all_firsts, ((λ h. refl), phase_wanting t (plan_error c.args.shared.now.task.set.now c.args.shared.now.task.env.now c.args.shared.now.task.output.now) (link_refusal c.args.shared.now.task.set.now c.args.shared.now.task.env.now look) (cargo_stages c.args.shared.now.task c.args.shared.now.reads c.args.shared.now.sources.now.name c.args.shared.now.sources.now.library all_firsts look) part no_memory x c.plan_lines.ensures.quiet refl));
    })

pub returns-clause-asks : goal.returns-clause-asks
returns-clause-asks g c = asking_before _ _ _ _ g.H.Host.log g.H.Host.patience c.args.host.now c.plan_lines.new.host c.do_stages.new.host _ _ c.plan_lines.ensures.asks c.do_stages.ensures.aside

pub returns-clause-outcome : goal.returns-clause-outcome
returns-clause-outcome g c =
    let old = g.H.Host.log c.args.host.now in
    let total = g.J.Jobs.total c.args.seat.now in
    let patience = g.H.Host.patience c.args.host.now in
    let t = terms c.args.shared.now.task.reporting.shows total patience in
    let x = left_at g.J.Jobs.faults g.J.Jobs.taken g.J.Jobs.load c.args.turns.now c.args.seat.now in
    let mid = g.H.Host.log c.plan_lines.new.host in
    let new = g.H.Host.log c.do_stages.new.host in
    let z = left_at g.J.Jobs.faults g.J.Jobs.taken g.J.Jobs.load c.do_stages.new.turns c.do_stages.new.seat in
    record {
      under = λ look agree.
          let plan = c.in-Ok.ensures.planned.under look agree in
          let printed = c.in_ok-stages.ensures in (
            printed.0,
            (
              printed.1.0,
              phase_done t (plan_error c.args.shared.now.task.set.now c.args.shared.now.task.env.now c.args.shared.now.task.output.now) (link_refusal c.args.shared.now.task.set.now c.args.shared.now.task.env.now look) (cargo_stages c.args.shared.now.task c.args.shared.now.reads c.args.shared.now.sources.now.name c.args.shared.now.sources.now.library printed.0 look) old mid new x c.plan_lines.ensures.asks.extends c.do_stages.ensures.aside.extends c.plan_lines.ensures.quiet plan.links.allowed (stages_seen c.deref.result.now) c.do_stages.result z
                  (line_stages c.args.shared.now.task c.args.shared.now.reads c.args.shared.now.sources.now.name c.args.shared.now.sources.now.library c.in-Ok.lines printed.0 look (stages_seen c.deref.result.now) (ap stages_seen c.deref.ensures.value ∙ printed.1.1) plan)
                  (same_patience c.args.shared.now.task.reporting.shows total (g.H.Host.patience c.plan_lines.new.host) patience None (stages_seen c.deref.result.now) (since mid new) c.do_stages.result x z c.plan_lines.ensures.asks.patient c.do_stages.ensures.outcome),
            ),
          );
    }
