use Rattle.std.proofs.Common.{ℕ, List, refl, subst}
use Rattle.std.proofs.lemmas.Result.{err_from_is_err_and}
use Rattle.cc_host.specs.Part.{since}
use Rattle.cc_host.specs.Question.{Holds}
use Rattle.cc_plan.specs.Questions.{RunAsks}
use Rattle.cc_plan.proofs.LineLemmas.{since_none}
use Rattle.cc_run.specs.declared.planned.Planned.{Planned}
use Rattle.cc_build.specs.Build.{BuildSeen, probes}
use Rattle.cc_build.specs.Course.{course}
use Rattle.cc_build.specs.Error.{no_memory}
use Rattle.cc_build.specs.Kept.{Asking}
use Rattle.cc_build.specs.RunPlan.{BehindOpening}
use Rattle.cc_build.specs.Way.{chosen}
use Rattle.cc_build.specs.Went.{means}
use Rattle.cc_build.proofs.Growing.{asking_aside}
use Rattle.cc_build.proofs.Keeping.{aside_none}
use Rattle.cc_build.proofs.RunPlanLaws.{behind_wanting}
use Rattle.cc_build.proofs.build.Build.run_plan.Goals as goal

pub returns-in_err-cmds-clause-asks : goal.returns-in_err-cmds-clause-asks
returns-in_err-cmds-clause-asks g c = asking_aside _ _ _ _ g.H.Host.log g.H.Host.patience c.args.host.now c.args.host.now _ (aside_none g.H.Host.log g.H.Host.patience c.args.host.now)

pub returns-in_err-cmds-clause-outcome : goal.returns-in_err-cmds-clause-outcome
returns-in_err-cmds-clause-outcome g c =
    let p = err_from_is_err_and c.from_residual.result c.from_residual.ensures.1 in
    let old = g.H.Host.log c.args.host.now in
    let x = means c.args.turns (g.J.Jobs.faults c.args.seat.now) (g.J.Jobs.taken c.args.seat.now) (g.J.Jobs.load c.args.seat.now) in
    rw (p.1, p.2)
    (record {
      under = λ look agree. (
        c.args.turns,
        behind_wanting c.args.self.now c.args.output.now c.args.plan.shows (chosen c.args.choices.now c.args.plan.commands.items) look (g.J.Jobs.total c.args.seat.now) (g.H.Host.patience c.args.host.now) (since old old) no_memory x (since_none old) refl,
      );
    })

pub returns-clause-asks : goal.returns-clause-asks
returns-clause-asks g c =
    subst (λ (b : BuildSeen). Asking g.W.World.steady g.W.World.answer (probes b) (RunAsks b.config b.env) g.H.Host.log g.H.Host.patience c.args.host.now c.run_parts.new.host c.args.answers.now c.run_parts.new.answers) c.self.view_is c.run_parts.ensures.asks

pub returns-clause-outcome : goal.returns-clause-outcome
returns-clause-outcome g c =
    let part = since (g.H.Host.log c.args.host.now) (g.H.Host.log c.run_parts.new.host) in
    let plan = c.args.plan in
    let left = c.run_parts.new.turns.left in
    let x = means c.args.turns (g.J.Jobs.faults c.args.seat.now) (g.J.Jobs.taken c.args.seat.now) (g.J.Jobs.load c.args.seat.now) in
    let z = means left (g.J.Jobs.faults c.run_parts.new.seat) (g.J.Jobs.taken c.run_parts.new.seat) (g.J.Jobs.load c.run_parts.new.seat) in
    let run = course (g.J.Jobs.total c.args.seat.now) (g.H.Host.patience c.args.host.now) x z in
    subst (λ (b : BuildSeen). Holds c.run_parts.new.answers (λ look. (left : ℕ) × BehindOpening b c.args.output.now plan.shows (chosen c.args.choices.now plan.commands.items) c.run_parts.result look part (course (g.J.Jobs.total c.args.seat.now) (g.H.Host.patience c.args.host.now) x (means left (g.J.Jobs.faults c.run_parts.new.seat) (g.J.Jobs.taken c.run_parts.new.seat) (g.J.Jobs.load c.run_parts.new.seat))))) c.self.view_is
    (record {
      under = λ look agree. (
        left,
        subst (λ (cmds : List Planned). BehindOpening (record { config = c.self.inside.config; env = c.self.inside.env }) c.args.output.now plan.shows cmds c.run_parts.result look part run) c.in_ok-cmds.ensures (c.run_parts.ensures.outcome.under look agree),
      );
    })
