use Rattle.std.proofs.Common.{◌≡◌, List, refl, sym, subst}
use Rattle.cc_host.specs.Part.{since}
use Rattle.cc_host.specs.Question.{Answer, Agrees, answers}
use Rattle.cc_plan.specs.Questions.{RunAsks}
use Rattle.cc_build.specs.Build.{probes}
use Rattle.cc_build.specs.Kept.{AsksOn}
use Rattle.cc_build.specs.Went.{means}
use Rattle.cc_build.proofs.Growing.{on_asked, asking_then, agrees_earlier}
use Rattle.cc_build.proofs.RunPlanLaws.{whole_unopened, whole_ends}
use Rattle.cc_build.proofs.build.Build.compile.Goals as goal

pub returns-in-Err-clause-asked : goal.returns-in-Err-clause-asked
returns-in-Err-clause-asked g c =
    let b = c.args.self.now in
    let part = since (g.H.Host.log c.args.host.now) (g.H.Host.log c.plan_run.new.host) in
    (on_asked g.W.World.steady g.W.World.answer (probes b) (RunAsks b.config b.env) part c.plan_run.new.answers
    (subst (λ (l : List Answer). AsksOn g.W.World.steady g.W.World.answer (probes b) (RunAsks b.config b.env) part l c.plan_run.new.answers) c.new-answers.ensures c.plan_run.ensures.asks.asks)).0

pub returns-in-Err-clause-outcome : goal.returns-in-Err-clause-outcome
returns-in-Err-clause-outcome g c =
    let b = c.args.self.now in
    let part = since (g.H.Host.log c.args.host.now) (g.H.Host.log c.plan_run.new.host) in
    let x = means c.args.goal.turns (g.J.Jobs.faults c.args.seat.now) (g.J.Jobs.taken c.args.seat.now) (g.J.Jobs.load c.args.seat.now) in
    let same : c.plan_run.new.answers ≡ answers part =
    (on_asked g.W.World.steady g.W.World.answer (probes b) (RunAsks b.config b.env) part c.plan_run.new.answers
    (subst (λ (l : List Answer). AsksOn g.W.World.steady g.W.World.answer (probes b) (RunAsks b.config b.env) part l c.plan_run.new.answers) c.new-answers.ensures c.plan_run.ensures.asks.asks)).1 in
    record {
      under = λ look agree. (
        c.args.goal.turns,
        whole_unopened b (g.H.Host.listens c.args.host.now) c.args.goal.output.now look (g.J.Jobs.total c.args.seat.now) (g.H.Host.patience c.args.host.now) part c.in-Err.error x
            (c.in-Err.ensures.outcome.under look (subst (Agrees look) (sym same) agree)),
      );
    }

pub returns-clause-asked : goal.returns-clause-asked
returns-clause-asked g c =
    let b = c.args.self.now in
    let part = since (g.H.Host.log c.args.host.now) (g.H.Host.log c.run_plan.new.host) in
    let both = asking_then g.W.World.steady g.W.World.answer (probes b) (RunAsks b.config b.env) g.H.Host.log g.H.Host.patience c.args.host.now c.plan_run.new.host c.run_plan.new.host _ _ _ c.plan_run.ensures.asks c.run_plan.ensures.asks in
    (on_asked g.W.World.steady g.W.World.answer (probes b) (RunAsks b.config b.env) part c.run_plan.new.answers
    (subst (λ (l : List Answer). AsksOn g.W.World.steady g.W.World.answer (probes b) (RunAsks b.config b.env) part l c.run_plan.new.answers) c.new-answers.ensures both.asks)).0

pub returns-clause-outcome : goal.returns-clause-outcome
returns-clause-outcome g c =
    let b = c.args.self.now in
    let old = g.H.Host.log c.args.host.now in
    let mid = g.H.Host.log c.plan_run.new.host in
    let new = g.H.Host.log c.run_plan.new.host in
    let total = g.J.Jobs.total c.args.seat.now in
    let patience = g.H.Host.patience c.args.host.now in
    let x = means c.args.goal.turns (g.J.Jobs.faults c.args.seat.now) (g.J.Jobs.taken c.args.seat.now) (g.J.Jobs.load c.args.seat.now) in
    let both = asking_then g.W.World.steady g.W.World.answer (probes b) (RunAsks b.config b.env) g.H.Host.log g.H.Host.patience c.args.host.now c.plan_run.new.host c.run_plan.new.host _ _ _ c.plan_run.ensures.asks c.run_plan.ensures.asks in
    let same : c.run_plan.new.answers ≡ answers (since old new) =
    (on_asked g.W.World.steady g.W.World.answer (probes b) (RunAsks b.config b.env) (since old new) c.run_plan.new.answers
    (subst (λ (l : List Answer). AsksOn g.W.World.steady g.W.World.answer (probes b) (RunAsks b.config b.env) (since old new) l c.run_plan.new.answers) c.new-answers.ensures both.asks)).1 in
    record {
      under = λ look agree.
          let known : Agrees look c.run_plan.new.answers = subst (Agrees look) (sym same) agree in
          let before = agrees_earlier look c.plan_run.new.answers c.run_plan.new.answers (answers (since mid new)) c.run_plan.ensures.asks.asks.answered known in
          let ran = c.run_plan.ensures.outcome.under look known in
          let z = means ran.0 (g.J.Jobs.faults c.run_plan.new.seat) (g.J.Jobs.taken c.run_plan.new.seat) (g.J.Jobs.load c.run_plan.new.seat) in (
            ran.0,
            whole_ends b (g.H.Host.listens c.args.host.now) c.args.goal.output.now look total patience c.in-Ok.plan old mid new c.run_plan.result x z total (g.H.Host.patience c.plan_run.new.host)
                c.plan_run.ensures.asks.extends c.run_plan.ensures.asks.extends refl c.plan_run.ensures.asks.patient (c.in-Ok.ensures.outcome.under look before) ran.1,
          );
    }
