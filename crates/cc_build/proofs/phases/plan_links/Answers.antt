use Rattle.std.proofs.Common.{◌∙◌, [], unwrap_or, sym, ap, arith}
use Rattle.std.specs.Path.{path_parent}
use Rattle.cc_host.specs.Part.{since}
use Rattle.cc_plan.specs.Questions.{RunAsks}
use Rattle.cc_plan.specs.Refusal.{link_refusal}
use Rattle.cc_build.proofs.Asking.{plan_cause_under}
use Rattle.cc_build.proofs.Growing.{asked_for, holds_at, of_links}
use Rattle.cc_build.proofs.PhaseLaws.{links_by}
use Rattle.cc_build.proofs.phases.plan_links.Goals as goal

pub returns-in-Ok-clause-asks : goal.returns-in-Ok-clause-asks
returns-in-Ok-clause-asks g c =
    asked_for _ _ (RunAsks c.args.task.now.set.now c.args.task.now.env.now) g.H.Host.log g.H.Host.patience _ _ _ _ _ _ _ _ (c.as_str.ensures ∙ c.requires.dir) c.plan_links.ensures.asks.asks (of_links c.args.task.now.set.now c.args.task.now.env.now (since (g.H.Host.log c.args.host.now) (g.H.Host.log c.plan_links.new.sight.host.now)) c.plan_links.new.sight.answers.now c.plan_links.ensures.asks.own) c.plan_links.ensures.asks.patient (grind arith) (grind arith)

pub returns-in-Err-clause-asks : goal.returns-in-Err-clause-asks
returns-in-Err-clause-asks g c =
    asked_for _ _ (RunAsks c.args.task.now.set.now c.args.task.now.env.now) g.H.Host.log g.H.Host.patience _ _ _ _ _ _ _ _ (c.as_str.ensures ∙ c.requires.dir) c.plan_links.ensures.asks.asks (of_links c.args.task.now.set.now c.args.task.now.env.now (since (g.H.Host.log c.args.host.now) (g.H.Host.log c.plan_links.new.sight.host.now)) c.plan_links.new.sight.answers.now c.plan_links.ensures.asks.own) c.plan_links.ensures.asks.patient (grind arith) (grind arith)

pub returns-in-Ok-clause-planned : goal.returns-in-Ok-clause-planned
returns-in-Ok-clause-planned g c =
    holds_at _ _ _ (grind arith) (λ look agree. record {
      allowed = c.in-Ok.ensures.allowed.is look agree;
      are = sym (links_by c.args.task.now.set.now c.args.task.now.env.now look c.args.sources.now.name c.args.sources.now.library _ _ _ c.as_str-name.ensures (c.folder_of-dir.ensures ∙ ap (λ p. unwrap_or (path_parent p) []) c.as_str-2.ensures) (c.in-Ok.ensures.lines.is look agree));
      warnings = sym (c.in-Ok.ensures.warnings.is look agree);
    })

pub returns-in-Err-clause-refused : goal.returns-in-Err-clause-refused
returns-in-Err-clause-refused g c =
    holds_at _ _ _ (grind arith) (λ look agree. plan_cause_under c.args.task.now.set.now c.args.task.now.env.now c.args.task.now.output.now c.in-Err.error c.refused.result _ (link_refusal c.args.task.now.set.now c.args.task.now.env.now) look agree c.refused.ensures c.in-Err.ensures.refused)
