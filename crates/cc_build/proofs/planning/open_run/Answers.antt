use Rattle.std.proofs.Common.{sym}
use Rattle.std.proofs.lemmas.Result.{err_from_is_err_and}
use Rattle.cc_host.specs.Part.{since}
use Rattle.cc_build.proofs.Growing.{asking_aside, asking_then}
use Rattle.cc_build.proofs.Outcomes.{made_or_memory}
use Rattle.cc_build.proofs.PlanningLaws.{opening_unfoldered, opening_disabled, opening_behind}
use Rattle.cc_build.proofs.planning.open_run.Goals as goal

pub returns-in_err-prepare_folder-clause-asks : goal.returns-in_err-prepare_folder-clause-asks
returns-in_err-prepare_folder-clause-asks g c = asking_aside _ _ _ _ g.H.Host.log g.H.Host.patience c.args.host.now c.prepare_folder.new.host _ c.prepare_folder.ensures.aside

pub returns-in_err-prepare_folder-clause-outcome : goal.returns-in_err-prepare_folder-clause-outcome
returns-in_err-prepare_folder-clause-outcome g c =
    let p = err_from_is_err_and c.from_residual.result c.from_residual.ensures.1 in
    let part = since (g.H.Host.log c.args.host.now) (g.H.Host.log c.prepare_folder.new.host) in
    rw (p.1, p.2) (record { under = λ look agree. opening_unfoldered c.args.task.now look part c.in_err-prepare_folder.field-0.0 c.in_err-prepare_folder.ensures.outcome })

pub returns-then-is_disabled-clause-asks : goal.returns-then-is_disabled-clause-asks
returns-then-is_disabled-clause-asks g c = asking_aside _ _ _ _ g.H.Host.log g.H.Host.patience c.args.host.now c.prepare_folder.new.host _ c.prepare_folder.ensures.aside

pub returns-then-is_disabled-clause-outcome : goal.returns-then-is_disabled-clause-outcome
returns-then-is_disabled-clause-outcome g c =
    let old = g.H.Host.log c.args.host.now in
    let made = g.H.Host.log c.prepare_folder.new.host in
    let e = c.or_no_memory.result in
    record {
      under = λ look agree.
          opening_disabled c.args.task.now look old made (λ t x. (c.in_ok-prepare_folder.ensures.outcome t x).1) e (sym c.if-is_disabled.ensures)
          (made_or_memory c.disabled.result e _ c.or_no_memory.ensures c.disabled.ensures);
    }

pub returns-clause-asks : goal.returns-clause-asks
returns-clause-asks g c =
    asking_then _ _ _ _ g.H.Host.log g.H.Host.patience c.args.host.now c.prepare_folder.new.host c.plan_and_open.new.host _ _ _
    (asking_aside _ _ _ _ g.H.Host.log g.H.Host.patience c.args.host.now c.prepare_folder.new.host _ c.prepare_folder.ensures.aside) c.plan_and_open.ensures.asks

pub returns-clause-outcome : goal.returns-clause-outcome
returns-clause-outcome g c =
    let old = g.H.Host.log c.args.host.now in
    let made = g.H.Host.log c.prepare_folder.new.host in
    let new = g.H.Host.log c.plan_and_open.new.host in
    record {
      under = λ look agree.
          opening_behind c.args.task.now look old made (λ t x. (c.in_ok-prepare_folder.ensures.outcome t x).1) new c.prepare_folder.ensures.aside.extends c.plan_and_open.ensures.asks.extends (sym c.if-is_disabled.ensures)
          c.plan_and_open.result (c.plan_and_open.ensures.outcome.under look agree);
    }
