use Rattle.std.proofs.Common.{Ok, Err, refl, ◌∙◌, ap, subst}
use Rattle.cc_host.specs.Part.{since}
use Rattle.cc_host.specs.Question.{Holds}
use Rattle.cc_plan.specs.Questions.{RunAsks}
use Rattle.cc_plan.proofs.LineLemmas.{since_none}
use Rattle.cc_build.specs.Build.{BuildSeen, build_in, probes}
use Rattle.cc_build.specs.Kept.{Asking}
use Rattle.cc_build.specs.RunPlan.{IsRunPlan, PlanRunEnds}
use Rattle.cc_build.specs.Shows.{shows_of}
use Rattle.cc_build.specs.declared.run_plan.RunPlan.{RunPlan}
use Rattle.cc_build.proofs.Growing.{asking_aside}
use Rattle.cc_build.proofs.Keeping.{aside_none}
use Rattle.cc_build.proofs.Outcomes.{made_or_memory}
use Rattle.cc_build.proofs.PlanningLaws.{plan_unchecked, plan_stopped, plan_opened}
use Rattle.cc_build.proofs.build.Build.plan_run.Goals as goal

pub returns-in-Err-clause-asks : goal.returns-in-Err-clause-asks
returns-in-Err-clause-asks g c = asking_aside _ _ _ _ g.H.Host.log g.H.Host.patience c.args.host.now c.args.host.now _ (aside_none g.H.Host.log g.H.Host.patience c.args.host.now)

pub returns-in-Err-clause-outcome : goal.returns-in-Err-clause-outcome
returns-in-Err-clause-outcome g c =
    let old = g.H.Host.log c.args.host.now in
    let listens = g.H.Host.listens c.args.host.now in
    subst (λ (b : BuildSeen). Holds c.args.answers.now (λ look. PlanRunEnds b listens c.args.output.now (Err c.or_no_memory.result) look (since old old))) c.self.view_is
    (record {
      under = λ look agree.
          plan_unchecked c.self.inside.config c.self.inside.env listens c.args.output.now look (since old old) c.or_no_memory.result c.in-Err.error (since_none old)
          (made_or_memory c.plan_error.result c.or_no_memory.result _ c.or_no_memory.ensures c.plan_error.ensures) c.in-Err.ensures.refused;
    })

pub returns-in-Err-open_run-clause-outcome : goal.returns-in-Err-open_run-clause-outcome
returns-in-Err-open_run-clause-outcome g c =
    let part = since (g.H.Host.log c.args.host.now) (g.H.Host.log c.open_run.new.host) in
    let listens = g.H.Host.listens c.args.host.now in
    let own = build_in c.self.inside.config c.self.inside.env in
    let are = c.shows_of-shows.ensures ∙ ap (shows_of c.self.inside.config c.self.inside.env) c.listens.ensures in
    subst (λ (b : BuildSeen). Holds c.open_run.new.answers (λ look. PlanRunEnds b listens c.args.output.now (Err c.in-Err-open_run.error) look part)) c.self.view_is
    (record { under = λ look agree. plan_stopped own c.args.output.now c.shows_of-shows.result listens look part c.in-Ok.ensures.allowed are c.in-Err-open_run.error (c.in-Err-open_run.ensures.outcome.under look agree) })

pub returns-in-Ok-open_run-clause-asks : goal.returns-in-Ok-open_run-clause-asks
returns-in-Ok-open_run-clause-asks g c =
    subst (λ (b : BuildSeen). Asking g.W.World.steady g.W.World.answer (probes b) (RunAsks b.config b.env) g.H.Host.log g.H.Host.patience c.args.host.now c.open_run.new.host c.args.answers.now c.open_run.new.answers) c.self.view_is c.open_run.ensures.asks

pub returns-in-Ok-open_run-clause-planned : goal.returns-in-Ok-open_run-clause-planned
returns-in-Ok-open_run-clause-planned g c =
    let plan : RunPlan = record { sources = c.in-Ok.sources; commands = c.in-Ok-open_run.commands; shows = c.shows_of-shows.result } in
    subst (λ (b : BuildSeen). IsRunPlan b c.args.output.now plan) c.self.view_is (record { dir = c.in-Ok.ensures.probes; name = c.in-Ok.ensures.name; library = c.in-Ok.ensures.library; objects = c.in-Ok.ensures.objects })

pub returns-in-Ok-open_run-clause-outcome : goal.returns-in-Ok-open_run-clause-outcome
returns-in-Ok-open_run-clause-outcome g c =
    let part = since (g.H.Host.log c.args.host.now) (g.H.Host.log c.open_run.new.host) in
    let listens = g.H.Host.listens c.args.host.now in
    let own = build_in c.self.inside.config c.self.inside.env in
    let are = c.shows_of-shows.ensures ∙ ap (shows_of c.self.inside.config c.self.inside.env) c.listens.ensures in
    let plan : RunPlan = record { sources = c.in-Ok.sources; commands = c.in-Ok-open_run.commands; shows = c.shows_of-shows.result } in
    subst (λ (b : BuildSeen). Holds c.open_run.new.answers (λ look. PlanRunEnds b listens c.args.output.now (Ok plan) look part)) c.self.view_is
    (record { under = λ look agree. plan_opened own c.args.output.now c.shows_of-shows.result listens look part c.in-Ok.ensures.allowed are plan refl (c.in-Ok-open_run.ensures.outcome.under look agree) })
