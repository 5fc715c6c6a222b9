use Rattle.std.proofs.Common.{◌≡◌, List, refl, sym, ◌∙◌, ap₂}
use Rattle.cc_host.specs.Part.{since}
use Rattle.cc_host.specs.Question.{answers}
use Rattle.cc_plan.specs.Plan.{objects_of}
use Rattle.cc_plan.specs.Questions.{RunAsks}
use Rattle.cc_build.specs.Build.{probes}
use Rattle.cc_build.proofs.Growing.{asking_then, agrees_earlier}
use Rattle.cc_build.proofs.Keeping.{aside_none}
use Rattle.cc_fresh.specs.Choice.{AsksForObject}
use Rattle.cc_fresh.specs.Refresh.{RefreshAsks, files_seen}
use Rattle.cc_fresh.specs.Unit.{units_of}
use Rattle.cc_fresh.specs.declared.refresh.Prepared.{Prepared}
use Rattle.cc_fresh.proofs.AskLaws.{asking_wider, of_run, of_objects}
use Rattle.cc_fresh.proofs.RefreshLaws.{unplanned, unlisted, unchosen, prepared}
use Rattle.cc_fresh.proofs.refresh.prepare.Goals as goal

pub returns-in-Err-clause-outcome : goal.returns-in-Err-clause-outcome
returns-in-Err-clause-outcome g c =
    let part = since (g.H.Host.log c.args.host.now) (g.H.Host.log c.plan_run.new.host) in
    record {
      under = λ look agree. unplanned c.args.build.now (g.H.Host.listens c.args.host.now) c.args.goal.output.now c.args.goal.record.now (files_seen g.F.Files.reads g.F.Files.faults c.args.files.now c.args.files.now) look part c.in-Err.error refl (c.in-Err.ensures.outcome.under look agree);
    }

pub returns-in-Err-units_of-clause-outcome : goal.returns-in-Err-units_of-clause-outcome
returns-in-Err-units_of-clause-outcome g c =
    let old = g.H.Host.log c.args.host.now in
    let mid = g.H.Host.log c.plan_run.new.host in
    record {
      under = λ look agree.
          unlisted c.args.build.now (g.H.Host.listens c.args.host.now) c.args.goal.output.now c.args.goal.record.now (files_seen g.F.Files.reads g.F.Files.faults c.args.files.now c.args.files.now) look c.in-Ok.plan old mid mid
          c.plan_run.ensures.asks.extends (aside_none g.H.Host.log g.H.Host.patience c.plan_run.new.host).extends (c.in-Ok.ensures.outcome.under look agree) c.from.result c.from.ensures refl;
    }

pub returns-in-Ok-choose-clause-asks : goal.returns-in-Ok-choose-clause-asks
returns-in-Ok-choose-clause-asks g c =
    let b = c.args.build.now in
    let are : c.as_slice-3.result.now ≡ units_of (objects_of b.config b.env) c.in-Ok.plan.commands.items = c.as_slice-3.ensures.value ∙ c.in-Ok-units_of.ensures ∙ ap₂ units_of (c.as_slice.ensures.value ∙ c.in-Ok.ensures.planned.objects) c.as_slice-2.ensures.value in
    asking_then g.W.World.steady g.W.World.answer (probes b) (RefreshAsks b) g.H.Host.log g.H.Host.patience c.args.host.now c.plan_run.new.host c.choose.new.host _ _ _
    (asking_wider g.W.World.steady g.W.World.answer (probes b) (RunAsks b.config b.env) (RefreshAsks b) (of_run b) g.H.Host.log g.H.Host.patience c.args.host.now c.plan_run.new.host c.args.answers.now c.plan_run.new.answers c.plan_run.ensures.asks)
    (asking_wider g.W.World.steady g.W.World.answer (probes b) (AsksForObject c.as_slice-3.result.now) (RefreshAsks b) (of_objects b c.in-Ok.plan.commands.items c.as_slice-3.result.now are) g.H.Host.log g.H.Host.patience c.plan_run.new.host c.choose.new.host c.plan_run.new.answers c.choose.new.answers c.choose.ensures.asks)

pub returns-in-Ok-choose-clause-outcome : goal.returns-in-Ok-choose-clause-outcome
returns-in-Ok-choose-clause-outcome g c =
    let b = c.args.build.now in
    let old = g.H.Host.log c.args.host.now in
    let mid = g.H.Host.log c.plan_run.new.host in
    let new = g.H.Host.log c.choose.new.host in
    let are : c.as_slice-3.result.now ≡ units_of (objects_of b.config b.env) c.in-Ok.plan.commands.items = c.as_slice-3.ensures.value ∙ c.in-Ok-units_of.ensures ∙ ap₂ units_of (c.as_slice.ensures.value ∙ c.in-Ok.ensures.planned.objects) c.as_slice-2.ensures.value in
    let p : Prepared = record { plan = c.in-Ok.plan; units = c.in-Ok-units_of.units; choice = c.in-Ok-choose.choice } in
    record {
      under = λ look agree.
          let before = agrees_earlier look c.plan_run.new.answers c.choose.new.answers (answers (since mid new)) c.choose.ensures.asks.asks.answered agree in
          prepared b (g.H.Host.listens c.args.host.now) c.args.goal.output.now c.args.goal.record.now (files_seen g.F.Files.reads g.F.Files.faults c.args.files.now c.choose.new.files) look c.in-Ok.plan old mid new
          c.plan_run.ensures.asks.extends c.choose.ensures.asks.extends (c.in-Ok.ensures.outcome.under look before) c.as_slice-3.result.now are c.choose.ensures.quiet p refl (sym c.as_slice-3.ensures.value) (c.in-Ok-choose.ensures.read.under look agree);
    }

pub returns-in-Err-choose-clause-asks : goal.returns-in-Err-choose-clause-asks
returns-in-Err-choose-clause-asks g c =
    let b = c.args.build.now in
    let are : c.as_slice-3.result.now ≡ units_of (objects_of b.config b.env) c.in-Ok.plan.commands.items = c.as_slice-3.ensures.value ∙ c.in-Ok-units_of.ensures ∙ ap₂ units_of (c.as_slice.ensures.value ∙ c.in-Ok.ensures.planned.objects) c.as_slice-2.ensures.value in
    asking_then g.W.World.steady g.W.World.answer (probes b) (RefreshAsks b) g.H.Host.log g.H.Host.patience c.args.host.now c.plan_run.new.host c.choose.new.host _ _ _
    (asking_wider g.W.World.steady g.W.World.answer (probes b) (RunAsks b.config b.env) (RefreshAsks b) (of_run b) g.H.Host.log g.H.Host.patience c.args.host.now c.plan_run.new.host c.args.answers.now c.plan_run.new.answers c.plan_run.ensures.asks)
    (asking_wider g.W.World.steady g.W.World.answer (probes b) (AsksForObject c.as_slice-3.result.now) (RefreshAsks b) (of_objects b c.in-Ok.plan.commands.items c.as_slice-3.result.now are) g.H.Host.log g.H.Host.patience c.plan_run.new.host c.choose.new.host c.plan_run.new.answers c.choose.new.answers c.choose.ensures.asks)

pub returns-in-Err-choose-clause-outcome : goal.returns-in-Err-choose-clause-outcome
returns-in-Err-choose-clause-outcome g c =
    let b = c.args.build.now in
    let old = g.H.Host.log c.args.host.now in
    let mid = g.H.Host.log c.plan_run.new.host in
    let new = g.H.Host.log c.choose.new.host in
    let are : c.as_slice-3.result.now ≡ units_of (objects_of b.config b.env) c.in-Ok.plan.commands.items = c.as_slice-3.ensures.value ∙ c.in-Ok-units_of.ensures ∙ ap₂ units_of (c.as_slice.ensures.value ∙ c.in-Ok.ensures.planned.objects) c.as_slice-2.ensures.value in
    record {
      under = λ look agree.
          let before = agrees_earlier look c.plan_run.new.answers c.choose.new.answers (answers (since mid new)) c.choose.ensures.asks.asks.answered agree in
          unchosen b (g.H.Host.listens c.args.host.now) c.args.goal.output.now c.args.goal.record.now (files_seen g.F.Files.reads g.F.Files.faults c.args.files.now c.choose.new.files) look c.in-Ok.plan old mid new
          c.plan_run.ensures.asks.extends c.choose.ensures.asks.extends (c.in-Ok.ensures.outcome.under look before) c.as_slice-3.result.now are c.choose.ensures.quiet c.in-Err-choose.error c.error_of.result c.error_of.ensures (c.in-Err-choose.ensures.refused.under look agree);
    }
