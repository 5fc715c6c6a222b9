use Rattle.std.proofs.Common.{◌≡◌, List, refl, sym, subst}
use Rattle.cc_host.specs.Part.{since}
use Rattle.cc_host.specs.Question.{Answer, Agrees, answers}
use Rattle.cc_plan.specs.Questions.{RunAsks}
use Rattle.cc_build.specs.Build.{probes}
use Rattle.cc_build.specs.Kept.{AsksOn}
use Rattle.cc_build.specs.Went.{means}
use Rattle.cc_build.proofs.Growing.{on_asked, asking_then, agrees_earlier}
use Rattle.cc_fresh.specs.Refresh.{RefreshAsks, files_seen}
use Rattle.cc_fresh.proofs.AskLaws.{asking_wider, of_run}
use Rattle.cc_fresh.proofs.RefreshLaws.{unrefreshed, refreshed}
use Rattle.cc_fresh.proofs.refresh.refresh.Goals as goal

pub returns-in-Err-clause-asked : goal.returns-in-Err-clause-asked
returns-in-Err-clause-asked g c =
    let b = c.args.build.now in
    let part = since (g.H.Host.log c.args.host.now) (g.H.Host.log c.prepare.new.host) in
    (on_asked g.W.World.steady g.W.World.answer (probes b) (RefreshAsks b) part c.prepare.new.answers
    (subst (λ (l : List Answer). AsksOn g.W.World.steady g.W.World.answer (probes b) (RefreshAsks b) part l c.prepare.new.answers) c.new-answers.ensures c.prepare.ensures.asks.asks)).0

pub returns-in-Err-clause-outcome : goal.returns-in-Err-clause-outcome
returns-in-Err-clause-outcome g c =
    let b = c.args.build.now in
    let part = since (g.H.Host.log c.args.host.now) (g.H.Host.log c.prepare.new.host) in
    let x = means c.args.goal.turns (g.J.Jobs.faults c.args.seat.now) (g.J.Jobs.taken c.args.seat.now) (g.J.Jobs.load c.args.seat.now) in
    let same : c.prepare.new.answers ≡ answers part =
    (on_asked g.W.World.steady g.W.World.answer (probes b) (RefreshAsks b) part c.prepare.new.answers
    (subst (λ (l : List Answer). AsksOn g.W.World.steady g.W.World.answer (probes b) (RefreshAsks b) part l c.prepare.new.answers) c.new-answers.ensures c.prepare.ensures.asks.asks)).1 in
    record {
      under = λ look agree. (
        c.args.goal.turns,
        unrefreshed b (g.H.Host.listens c.args.host.now) c.args.goal.output.now c.args.goal.record.now c.args.goal.checks_object look (files_seen g.F.Files.reads g.F.Files.faults c.args.files.now c.prepare.new.files) part c.in-Err.error (g.J.Jobs.total c.args.seat.now) (g.H.Host.patience c.args.host.now) x
            (c.in-Err.ensures.outcome.under look (subst (Agrees look) (sym same) agree)),
      );
    }

pub returns-clause-asked : goal.returns-clause-asked
returns-clause-asked g c =
    let b = c.args.build.now in
    let part = since (g.H.Host.log c.args.host.now) (g.H.Host.log c.perform.new.host) in
    let both = asking_then g.W.World.steady g.W.World.answer (probes b) (RefreshAsks b) g.H.Host.log g.H.Host.patience c.args.host.now c.prepare.new.host c.perform.new.host _ _ _ c.prepare.ensures.asks
    (asking_wider g.W.World.steady g.W.World.answer (probes b) (RunAsks b.config b.env) (RefreshAsks b) (of_run b) g.H.Host.log g.H.Host.patience c.prepare.new.host c.perform.new.host c.prepare.new.answers c.perform.new.answers c.perform.ensures.asks) in
    (on_asked g.W.World.steady g.W.World.answer (probes b) (RefreshAsks b) part c.perform.new.answers
    (subst (λ (l : List Answer). AsksOn g.W.World.steady g.W.World.answer (probes b) (RefreshAsks b) part l c.perform.new.answers) c.new-answers.ensures both.asks)).0

pub returns-clause-outcome : goal.returns-clause-outcome
returns-clause-outcome g c =
    let b = c.args.build.now in
    let old = g.H.Host.log c.args.host.now in
    let mid = g.H.Host.log c.prepare.new.host in
    let new = g.H.Host.log c.perform.new.host in
    let reads = g.F.Files.reads in
    let faults = g.F.Files.faults in
    let total = g.J.Jobs.total c.args.seat.now in
    let patience = g.H.Host.patience c.args.host.now in
    let x = means c.args.goal.turns (g.J.Jobs.faults c.args.seat.now) (g.J.Jobs.taken c.args.seat.now) (g.J.Jobs.load c.args.seat.now) in
    let both = asking_then g.W.World.steady g.W.World.answer (probes b) (RefreshAsks b) g.H.Host.log g.H.Host.patience c.args.host.now c.prepare.new.host c.perform.new.host _ _ _ c.prepare.ensures.asks
    (asking_wider g.W.World.steady g.W.World.answer (probes b) (RunAsks b.config b.env) (RefreshAsks b) (of_run b) g.H.Host.log g.H.Host.patience c.prepare.new.host c.perform.new.host c.prepare.new.answers c.perform.new.answers c.perform.ensures.asks) in
    let same : c.perform.new.answers ≡ answers (since old new) =
    (on_asked g.W.World.steady g.W.World.answer (probes b) (RefreshAsks b) (since old new) c.perform.new.answers
    (subst (λ (l : List Answer). AsksOn g.W.World.steady g.W.World.answer (probes b) (RefreshAsks b) (since old new) l c.perform.new.answers) c.new-answers.ensures both.asks)).1 in
    record {
      under = λ look agree.
          let known : Agrees look c.perform.new.answers = subst (Agrees look) (sym same) agree in
          let before = agrees_earlier look c.prepare.new.answers c.perform.new.answers (answers (since mid new)) c.perform.ensures.asks.asks.answered known in
          let ran = c.perform.ensures.outcome.under look known in
          let z = means ran.0 (g.J.Jobs.faults c.perform.new.seat) (g.J.Jobs.taken c.perform.new.seat) (g.J.Jobs.load c.perform.new.seat) in (
            ran.0,
            refreshed b (g.H.Host.listens c.args.host.now) c.args.goal.output.now c.args.goal.record.now c.args.goal.checks_object look c.in-Ok.prepared
                (reads c.args.files.now) (reads c.prepare.new.files) (reads c.perform.new.files) (faults c.args.files.now) (faults c.prepare.new.files) (faults c.perform.new.files) c.prepare.ensures.later
                old mid new c.prepare.ensures.asks.extends c.perform.ensures.asks.extends c.perform.result total patience (g.H.Host.patience c.prepare.new.host) x z
                c.prepare.ensures.asks.patient (c.in-Ok.ensures.outcome.under look before) ran.1,
          );
    }
