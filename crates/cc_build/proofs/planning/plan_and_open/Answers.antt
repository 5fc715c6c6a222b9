use Rattle.std.proofs.Common.{◌∙◌}
use Rattle.cc_host.specs.Part.{since}
use Rattle.cc_build.proofs.Growing.{asking_before}
use Rattle.cc_build.proofs.PlanningLaws.{opening_refused, opening_ends}
use Rattle.cc_build.proofs.planning.plan_and_open.Goals as goal

pub returns-in-Err-clause-outcome : goal.returns-in-Err-clause-outcome
returns-in-Err-clause-outcome g c =
    let part = since (g.H.Host.log c.args.host.now) (g.H.Host.log c.plan_compiles.new.host) in
    record {
      under = λ look agree. opening_refused c.args.task.now look part c.in-Err.error c.plan_compiles.ensures.quiet (c.in-Err.ensures.refused.under look agree);
    }

pub returns-clause-asks : goal.returns-clause-asks
returns-clause-asks g c = asking_before _ _ _ _ g.H.Host.log g.H.Host.patience c.args.host.now c.plan_compiles.new.host c.open_commands.new.host _ _ c.plan_compiles.ensures.asks c.open_commands.ensures.aside

pub returns-clause-outcome : goal.returns-clause-outcome
returns-clause-outcome g c =
    let old = g.H.Host.log c.args.host.now in
    let mid = g.H.Host.log c.plan_compiles.new.host in
    let new = g.H.Host.log c.open_commands.new.host in
    record {
      under = λ look agree.
          opening_ends c.args.task.now c.in-Ok.plan look c.as_slice.result.now (c.in-Ok.ensures.planned.under look agree) old mid new
          c.plan_compiles.ensures.asks.extends c.open_commands.ensures.aside.extends c.plan_compiles.ensures.quiet
          (c.as_slice.ensures.value ∙ c.requires.objects) c.open_commands.result c.open_commands.ensures.outcome;
    }
