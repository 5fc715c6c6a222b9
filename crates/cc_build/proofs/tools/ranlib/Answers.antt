use Rattle.std.proofs.Common.{[], sym, arith}
use Rattle.cc_plan.specs.Questions.{RanlibAsks}
use Rattle.cc_plan.specs.Refusal.{ranlib_refusal}
use Rattle.cc_build.proofs.Asking.{plan_cause_under}
use Rattle.cc_build.proofs.Finding.{alone_extends, alone_answered, alone_asked, alone_quiet, alone_under}
use Rattle.cc_build.proofs.Outcomes.{made_or_memory}
use Rattle.cc_build.proofs.tools.ranlib.Goals as goal

pub returns-in-Ok-clause-extends : goal.returns-in-Ok-clause-extends
returns-in-Ok-clause-extends g c = alone_extends _ _ _ (RanlibAsks c.args.task.now.set.now c.args.task.now.env.now) _ _ _ _ _ c.ranlib_of.ensures.asks.asks c.ranlib_of.ensures.asks.own (grind arith) c.requires.fresh

pub returns-in-Ok-clause-asked : goal.returns-in-Ok-clause-asked
returns-in-Ok-clause-asked g c = alone_asked _ _ _ (RanlibAsks c.args.task.now.set.now c.args.task.now.env.now) _ _ _ _ _ c.ranlib_of.ensures.asks.asks c.ranlib_of.ensures.asks.own (grind arith) c.requires.fresh _ c.probe_folder.ensures

pub returns-in-Ok-clause-quiet : goal.returns-in-Ok-clause-quiet
returns-in-Ok-clause-quiet g c = alone_quiet _ _ _ (RanlibAsks c.args.task.now.set.now c.args.task.now.env.now) _ _ _ _ _ c.ranlib_of.ensures.asks.asks c.ranlib_of.ensures.asks.own (grind arith) c.requires.fresh

pub returns-in-Err-clause-extends : goal.returns-in-Err-clause-extends
returns-in-Err-clause-extends g c = alone_extends _ _ _ (RanlibAsks c.args.task.now.set.now c.args.task.now.env.now) _ _ _ _ _ c.ranlib_of.ensures.asks.asks c.ranlib_of.ensures.asks.own (grind arith) c.requires.fresh

pub returns-in-Err-clause-asked : goal.returns-in-Err-clause-asked
returns-in-Err-clause-asked g c = alone_asked _ _ _ (RanlibAsks c.args.task.now.set.now c.args.task.now.env.now) _ _ _ _ _ c.ranlib_of.ensures.asks.asks c.ranlib_of.ensures.asks.own (grind arith) c.requires.fresh _ c.probe_folder.ensures

pub returns-in-Err-clause-quiet : goal.returns-in-Err-clause-quiet
returns-in-Err-clause-quiet g c = alone_quiet _ _ _ (RanlibAsks c.args.task.now.set.now c.args.task.now.env.now) _ _ _ _ _ c.ranlib_of.ensures.asks.asks c.ranlib_of.ensures.asks.own (grind arith) c.requires.fresh

pub returns-in-Ok-clause-ranlib : goal.returns-in-Ok-clause-ranlib
returns-in-Ok-clause-ranlib g c =
    alone_under _ _ _ (RanlibAsks c.args.task.now.set.now c.args.task.now.env.now) _ _ _ _ _ c.ranlib_of.ensures.asks.asks c.ranlib_of.ensures.asks.own (grind arith) c.requires.fresh
    (λ look agree. record {
      allowed = c.in-Ok.ensures.allowed.is look agree;
      is = sym (c.in-Ok.ensures.settles.is look agree);
    })

pub returns-in-Err-clause-refused : goal.returns-in-Err-clause-refused
returns-in-Err-clause-refused g c =
    alone_under _ _ _ (RanlibAsks c.args.task.now.set.now c.args.task.now.env.now) _ _ _ _ _ c.ranlib_of.ensures.asks.asks c.ranlib_of.ensures.asks.own (grind arith) c.requires.fresh
    (λ look agree. plan_cause_under c.args.task.now.set.now c.args.task.now.env.now [] c.in-Err.error c.or_no_memory.result _ (ranlib_refusal c.args.task.now.set.now c.args.task.now.env.now) look agree
    (made_or_memory c.plan_error.result c.or_no_memory.result _ c.or_no_memory.ensures c.plan_error.ensures) c.in-Err.ensures.refused)

pub returns-in-Ok-clause-answered : goal.returns-in-Ok-clause-answered
returns-in-Ok-clause-answered g c = alone_answered _ _ _ (RanlibAsks c.args.task.now.set.now c.args.task.now.env.now) _ _ _ _ _ c.ranlib_of.ensures.asks.asks c.ranlib_of.ensures.asks.own (grind arith) c.requires.fresh _ (grind arith)

pub returns-in-Err-clause-answered : goal.returns-in-Err-clause-answered
returns-in-Err-clause-answered g c = alone_answered _ _ _ (RanlibAsks c.args.task.now.set.now c.args.task.now.env.now) _ _ _ _ _ c.ranlib_of.ensures.asks.asks c.ranlib_of.ensures.asks.own (grind arith) c.requires.fresh _ (grind arith)
