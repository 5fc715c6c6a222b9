use Rattle.std.proofs.Common.{Bool, List, Ok, Err, refl, subst}
use Rattle.cc_host.specs.Part.{since}
use Rattle.cc_plan.specs.Questions.{RunAsks}
use Rattle.cc_build.specs.Build.{probes}
use Rattle.cc_build.specs.Course.{course}
use Rattle.cc_build.specs.RunPlan.{RunPlanEnds}
use Rattle.cc_build.specs.Went.{means}
use Rattle.cc_build.proofs.Growing.{asking_before}
use Rattle.cc_fresh.specs.Refresh.{files_seen}
use Rattle.cc_fresh.specs.Refreshing.{FinishEnds}
use Rattle.cc_fresh.specs.declared.unit.TranslationUnit.{TranslationUnit}
use Rattle.cc_fresh.proofs.RefreshLaws.{unperformed, performed}
use Rattle.cc_fresh.proofs.refresh.perform.Goals as goal

pub returns-in-Err-clause-outcome : goal.returns-in-Err-clause-outcome
returns-in-Err-clause-outcome g c =
    let b = c.args.build.now in
    let p = c.args.prepared in
    let output = c.args.goal.output.now in
    let part = since (g.H.Host.log c.args.host.now) (g.H.Host.log c.run_plan.new.host) in
    let x = means c.args.goal.turns (g.J.Jobs.faults c.args.seat.now) (g.J.Jobs.taken c.args.seat.now) (g.J.Jobs.load c.args.seat.now) in
    record {
      under = λ look agree.
          let ran = c.in-Err.ensures.outcome.under look agree in
          let z = means ran.0 (g.J.Jobs.faults c.run_plan.new.seat) (g.J.Jobs.taken c.run_plan.new.seat) (g.J.Jobs.load c.run_plan.new.seat) in
          let run = course (g.J.Jobs.total c.args.seat.now) (g.H.Host.patience c.args.host.now) x z in (
            ran.0,
            unperformed b output c.args.goal.record.now c.args.goal.checks_object p (files_seen g.F.Files.reads g.F.Files.faults c.args.files.now c.args.files.now) look part c.in-Err.error run refl
                (subst (λ (cs : List Bool). RunPlanEnds {T = Unit {0}} b output p.plan cs (Err c.in-Err.error) look part run) c.as_slice-choices.ensures.value ran.1),
          );
    }

pub returns-clause-asks : goal.returns-clause-asks
returns-clause-asks g c =
    let b = c.args.build.now in
    asking_before g.W.World.steady g.W.World.answer (probes b) (RunAsks b.config b.env) g.H.Host.log g.H.Host.patience c.args.host.now c.run_plan.new.host c.finish.new.host c.args.answers.now c.run_plan.new.answers c.run_plan.ensures.asks c.finish.ensures.aside

pub returns-clause-outcome : goal.returns-clause-outcome
returns-clause-outcome g c =
    let b = c.args.build.now in
    let p = c.args.prepared in
    let output = c.args.goal.output.now in
    let old = g.H.Host.log c.args.host.now in
    let mid = g.H.Host.log c.run_plan.new.host in
    let new = g.H.Host.log c.finish.new.host in
    let total = g.J.Jobs.total c.args.seat.now in
    let patience = g.H.Host.patience c.args.host.now in
    let files = files_seen g.F.Files.reads g.F.Files.faults c.args.files.now c.finish.new.files in
    let x = means c.args.goal.turns (g.J.Jobs.faults c.args.seat.now) (g.J.Jobs.taken c.args.seat.now) (g.J.Jobs.load c.args.seat.now) in
    let ended = subst (λ (us : List TranslationUnit). FinishEnds c.args.goal.checks_object c.args.goal.record.now us p.choice c.finish.result files (since mid new)) c.as_slice.ensures.value c.finish.ensures.outcome in
    record {
      under = λ look agree.
          let ran = c.in-Ok.ensures.outcome.under look agree in
          let z = means ran.0 (g.J.Jobs.faults c.run_plan.new.seat) (g.J.Jobs.taken c.run_plan.new.seat) (g.J.Jobs.load c.run_plan.new.seat) in (
            ran.0,
            performed b output c.args.goal.record.now c.args.goal.checks_object p files look old mid new c.finish.result total patience x z c.run_plan.ensures.asks.extends c.finish.ensures.aside.extends
                (subst (λ (cs : List Bool). RunPlanEnds {T = Unit {0}} b output p.plan cs (Ok (tt {0})) look (since old mid) (course total patience x z)) c.as_slice-choices.ensures.value ran.1) ended,
          );
    }
