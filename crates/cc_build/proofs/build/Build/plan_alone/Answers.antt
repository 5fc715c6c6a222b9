use Rattle.std.proofs.Common.{◌≡◌, List, [], Ok, Err, refl, sym, subst}
use Rattle.cc_host.specs.Part.{since}
use Rattle.cc_host.specs.Question.{Answer, Agrees, answers, Holds}
use Rattle.cc_plan.specs.Questions.{RunAsks}
use Rattle.cc_build.specs.Build.{BuildSeen, probes}
use Rattle.cc_build.specs.Kept.{AsksOn, Asking}
use Rattle.cc_build.specs.Planning.{PlanningEnds}
use Rattle.cc_build.specs.RunPlan.{IsRunPlan, PlanRunEnds}
use Rattle.cc_build.specs.Stage.{IsRun}
use Rattle.cc_build.specs.declared.planning.CompilePlan.{CompilePlan}
use Rattle.cc_build.proofs.Growing.{on_asked, asking_then, agrees_earlier}
use Rattle.cc_build.proofs.PlanningLaws.{planning_stopped, planning_untold, planning_told}
use Rattle.cc_build.proofs.ToldLaws.{sources_are}
use Rattle.cc_build.proofs.build.Build.plan_alone.Goals as goal

pub print_names-requires-clause-plain : goal.print_names-requires-clause-plain
print_names-requires-clause-plain g c = λ κs lives. subst (IsRun c.self.inside.config) (sym c.source_reads.ensures) (sources_are c.self.inside.config)

pub returns-in-Err-clause-asked : goal.returns-in-Err-clause-asked
returns-in-Err-clause-asked g c =
    let b = c.args.self.now in
    let part = since (g.H.Host.log c.args.host.now) (g.H.Host.log c.plan_run.new.host) in
    (on_asked g.W.World.steady g.W.World.answer (probes b) (RunAsks b.config b.env) part c.plan_run.new.answers
    (subst (λ (l : List Answer). AsksOn g.W.World.steady g.W.World.answer (probes b) (RunAsks b.config b.env) part l c.plan_run.new.answers) c.new-answers.ensures c.plan_run.ensures.asks.asks)).0

pub returns-in-Err-clause-outcome : goal.returns-in-Err-clause-outcome
returns-in-Err-clause-outcome g c =
    let b = c.args.self.now in
    let part = since (g.H.Host.log c.args.host.now) (g.H.Host.log c.plan_run.new.host) in
    let same : c.plan_run.new.answers ≡ answers part =
    (on_asked g.W.World.steady g.W.World.answer (probes b) (RunAsks b.config b.env) part c.plan_run.new.answers
    (subst (λ (l : List Answer). AsksOn g.W.World.steady g.W.World.answer (probes b) (RunAsks b.config b.env) part l c.plan_run.new.answers) c.new-answers.ensures c.plan_run.ensures.asks.asks)).1 in
    record {
      under = λ look agree. planning_stopped b (g.H.Host.listens c.args.host.now) c.args.output.now look part c.in-Err.error (c.in-Err.ensures.outcome.under look (subst (Agrees look) (sym same) agree));
    }

pub returns-clause-asked : goal.returns-clause-asked
returns-clause-asked g c =
    let b = c.args.self.now in
    let old = g.H.Host.log c.args.host.now in
    let mid = g.H.Host.log c.plan_run.new.host in
    let new = g.H.Host.log c.print_names.new.host in
    let told = subst (λ (s : BuildSeen). Asking g.W.World.steady g.W.World.answer (probes s) (RunAsks s.config s.env) g.H.Host.log g.H.Host.patience c.plan_run.new.host c.print_names.new.host c.plan_run.new.answers c.print_names.new.answers) c.self.view_is c.print_names.ensures.asks in
    let both = asking_then g.W.World.steady g.W.World.answer (probes b) (RunAsks b.config b.env) g.H.Host.log g.H.Host.patience c.args.host.now c.plan_run.new.host c.print_names.new.host _ _ _ c.plan_run.ensures.asks told in
    let on : AsksOn g.W.World.steady g.W.World.answer (probes b) (RunAsks b.config b.env) (since old new) [] c.print_names.new.answers =
    subst (λ (l : List Answer). AsksOn g.W.World.steady g.W.World.answer (probes b) (RunAsks b.config b.env) (since old new) l c.print_names.new.answers) c.new-answers.ensures both.asks in
    (on_asked g.W.World.steady g.W.World.answer (probes b) (RunAsks b.config b.env) (since old new) c.print_names.new.answers on).0

pub returns-clause-outcome : goal.returns-clause-outcome
returns-clause-outcome g c =
    let b = c.args.self.now in
    let old = g.H.Host.log c.args.host.now in
    let mid = g.H.Host.log c.plan_run.new.host in
    let new = g.H.Host.log c.print_names.new.host in
    let told = subst (λ (s : BuildSeen). Asking g.W.World.steady g.W.World.answer (probes s) (RunAsks s.config s.env) g.H.Host.log g.H.Host.patience c.plan_run.new.host c.print_names.new.host c.plan_run.new.answers c.print_names.new.answers) c.self.view_is c.print_names.ensures.asks in
    let both = asking_then g.W.World.steady g.W.World.answer (probes b) (RunAsks b.config b.env) g.H.Host.log g.H.Host.patience c.args.host.now c.plan_run.new.host c.print_names.new.host _ _ _ c.plan_run.ensures.asks told in
    let on : AsksOn g.W.World.steady g.W.World.answer (probes b) (RunAsks b.config b.env) (since old new) [] c.print_names.new.answers =
    subst (λ (l : List Answer). AsksOn g.W.World.steady g.W.World.answer (probes b) (RunAsks b.config b.env) (since old new) l c.print_names.new.answers) c.new-answers.ensures both.asks in
    let same : c.print_names.new.answers ≡ answers (since old new) = (on_asked g.W.World.steady g.W.World.answer (probes b) (RunAsks b.config b.env) (since old new) c.print_names.new.answers on).1 in
    let listens = g.H.Host.listens c.args.host.now in
    subst (λ (s : BuildSeen). Holds (answers (since old new)) (λ look. PlanningEnds s listens c.args.output.now (Err c.in-Err-print_names.error) look (since old new))) c.self.view_is
    (record {
      under = λ look agree.
          let known : Agrees look c.print_names.new.answers = subst (Agrees look) (sym same) agree in
          let before = agrees_earlier look c.plan_run.new.answers c.print_names.new.answers (answers (since mid new)) c.print_names.ensures.asks.asks.answered known in
          let plan = subst (λ (s : BuildSeen). PlanRunEnds s listens c.args.output.now (Ok c.in-Ok.plan) look (since old mid)) (sym c.self.view_is) (c.in-Ok.ensures.outcome.under look before) in
          planning_untold _ listens c.args.output.now look c.in-Ok.plan _ c.source_reads.result old mid new _ _ c.plan_run.ensures.asks.extends c.print_names.ensures.asks.extends c.source_reads.ensures plan
          c.in-Err-print_names.error (c.in-Err-print_names.ensures.outcome.under look known);
    })

pub returns-in-Ok-print_names-clause-asked : goal.returns-in-Ok-print_names-clause-asked
returns-in-Ok-print_names-clause-asked g c =
    let b = c.args.self.now in
    let old = g.H.Host.log c.args.host.now in
    let mid = g.H.Host.log c.plan_run.new.host in
    let new = g.H.Host.log c.print_names.new.host in
    let told = subst (λ (s : BuildSeen). Asking g.W.World.steady g.W.World.answer (probes s) (RunAsks s.config s.env) g.H.Host.log g.H.Host.patience c.plan_run.new.host c.print_names.new.host c.plan_run.new.answers c.print_names.new.answers) c.self.view_is c.print_names.ensures.asks in
    let both = asking_then g.W.World.steady g.W.World.answer (probes b) (RunAsks b.config b.env) g.H.Host.log g.H.Host.patience c.args.host.now c.plan_run.new.host c.print_names.new.host _ _ _ c.plan_run.ensures.asks told in
    let on : AsksOn g.W.World.steady g.W.World.answer (probes b) (RunAsks b.config b.env) (since old new) [] c.print_names.new.answers =
    subst (λ (l : List Answer). AsksOn g.W.World.steady g.W.World.answer (probes b) (RunAsks b.config b.env) (since old new) l c.print_names.new.answers) c.new-answers.ensures both.asks in
    (on_asked g.W.World.steady g.W.World.answer (probes b) (RunAsks b.config b.env) (since old new) c.print_names.new.answers on).0

pub returns-in-Ok-print_names-clause-outcome : goal.returns-in-Ok-print_names-clause-outcome
returns-in-Ok-print_names-clause-outcome g c =
    let b = c.args.self.now in
    let old = g.H.Host.log c.args.host.now in
    let mid = g.H.Host.log c.plan_run.new.host in
    let new = g.H.Host.log c.print_names.new.host in
    let told = subst (λ (s : BuildSeen). Asking g.W.World.steady g.W.World.answer (probes s) (RunAsks s.config s.env) g.H.Host.log g.H.Host.patience c.plan_run.new.host c.print_names.new.host c.plan_run.new.answers c.print_names.new.answers) c.self.view_is c.print_names.ensures.asks in
    let both = asking_then g.W.World.steady g.W.World.answer (probes b) (RunAsks b.config b.env) g.H.Host.log g.H.Host.patience c.args.host.now c.plan_run.new.host c.print_names.new.host _ _ _ c.plan_run.ensures.asks told in
    let on : AsksOn g.W.World.steady g.W.World.answer (probes b) (RunAsks b.config b.env) (since old new) [] c.print_names.new.answers =
    subst (λ (l : List Answer). AsksOn g.W.World.steady g.W.World.answer (probes b) (RunAsks b.config b.env) (since old new) l c.print_names.new.answers) c.new-answers.ensures both.asks in
    let same : c.print_names.new.answers ≡ answers (since old new) = (on_asked g.W.World.steady g.W.World.answer (probes b) (RunAsks b.config b.env) (since old new) c.print_names.new.answers on).1 in
    let listens = g.H.Host.listens c.args.host.now in
    let made : CompilePlan = record { objects = c.in-Ok.plan.sources.objects; commands = c.in-Ok.plan.commands; shows = c.in-Ok.plan.shows } in
    subst (λ (s : BuildSeen). Holds (answers (since old new)) (λ look. PlanningEnds s listens c.args.output.now (Ok made) look (since old new))) c.self.view_is
    (record {
      under = λ look agree.
          let known : Agrees look c.print_names.new.answers = subst (Agrees look) (sym same) agree in
          let before = agrees_earlier look c.plan_run.new.answers c.print_names.new.answers (answers (since mid new)) c.print_names.ensures.asks.asks.answered known in
          let plan = subst (λ (s : BuildSeen). PlanRunEnds s listens c.args.output.now (Ok c.in-Ok.plan) look (since old mid)) (sym c.self.view_is) (c.in-Ok.ensures.outcome.under look before) in
          let planned = subst (λ (s : BuildSeen). IsRunPlan s c.args.output.now c.in-Ok.plan) (sym c.self.view_is) c.in-Ok.ensures.planned in
          planning_told _ listens c.args.output.now look c.in-Ok.plan _ c.source_reads.result old mid new _ _ c.plan_run.ensures.asks.extends c.print_names.ensures.asks.extends c.source_reads.ensures plan
          made tt planned.objects refl refl (c.in-Ok-print_names.ensures.outcome.under look known);
    })
