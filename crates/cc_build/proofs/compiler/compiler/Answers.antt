use Rattle.std.proofs.Common.{Ok, Err, sym, arith}
use Rattle.cc_tool.specs.Tool.{ToolSeen}
use Rattle.cc_plan.specs.Plan.{tool_warnings}
use Rattle.cc_plan.specs.Refusal.{tool_refusal}
use Rattle.cc_build.specs.Compiler.{tool_error, tool_steps}
use Rattle.cc_build.proofs.Outcomes.{made_or_memory}
use Rattle.cc_build.proofs.Telling.{then_extends, then_answered, then_asked, then_childless, under_then, then_outcome, planned_outcome, unplanned_outcome}
use Rattle.cc_build.proofs.compiler.compiler.Goals as goal

pub returns-in-Ok-clause-asked : goal.returns-in-Ok-clause-asked
returns-in-Ok-clause-asked g c = then_asked _ _ _ _ _ _ _ _ _ _ c.tool_of.ensures.asks (grind arith) c.requires.fresh c.tool_of.ensures.asks.holds.silent _ c.probe_folder.ensures

pub returns-in-Ok-clause-tool : goal.returns-in-Ok-clause-tool
returns-in-Ok-clause-tool g c =
    under_then _ _ _ _ _ _ _ _ _ _ c.tool_of.ensures.asks (grind arith) c.requires.fresh c.tool_of.ensures.asks.holds.silent
    (λ look agree. sym (c.in-Ok.ensures.tool.is look agree))

pub returns-in-Ok-clause-childless : goal.returns-in-Ok-clause-childless
returns-in-Ok-clause-childless g c = then_childless _ _ _ _ _ _ _ _ _ _ c.tool_of.ensures.asks (grind arith) c.requires.fresh c.tool_of.ensures.asks.holds.silent c.tool_of.ensures.asks.holds.childless

pub returns-in-Ok-clause-outcome : goal.returns-in-Ok-clause-outcome
returns-in-Ok-clause-outcome g c =
    under_then _ _ _ _ _ _ _ _ _ _ c.tool_of.ensures.asks (grind arith) c.requires.fresh c.tool_of.ensures.asks.holds.silent
    (λ look agree. (
      c.tool_of.ensures.asks.holds.warns_of_link,
      then_outcome _ _ _ _ _ _ _ _ _ _ c.tool_of.ensures.asks (grind arith) c.requires.fresh c.tool_of.ensures.asks.holds.silent
          (tool_error c.args.task.now.set.now c.args.task.now.env.now look) (tool_steps c.args.task.now.set.now c.args.task.now.env.now (g.H.Host.listens c.args.host.now) c.tool_of.ensures.asks.holds.warns_of_link look) (Ok c.in-Ok.tool)
          (planned_outcome c.tool_of.new.sight.answers.now (tool_warnings c.args.task.now.set.now c.args.task.now.env.now (g.H.Host.listens c.args.host.now)) (tool_refusal c.args.task.now.set.now c.args.task.now.env.now) c.args.task.now.set.now c.args.task.now.env.now c.tool_of.ensures.asks.rest c.tool_of.result c.in-Ok.tool c.in-Ok.tool look agree c.in-Ok.is c.tool_of.ensures.asks.holds c.in-Ok.ensures.allowed),
    ))

pub returns-in-Err-clause-extends : goal.returns-in-Err-clause-extends
returns-in-Err-clause-extends g c = then_extends _ _ _ _ _ _ _ _ _ _ c.tool_of.ensures.asks (grind arith) c.requires.fresh c.tool_of.ensures.asks.holds.silent

pub returns-in-Err-clause-asked : goal.returns-in-Err-clause-asked
returns-in-Err-clause-asked g c = then_asked _ _ _ _ _ _ _ _ _ _ c.tool_of.ensures.asks (grind arith) c.requires.fresh c.tool_of.ensures.asks.holds.silent _ c.probe_folder.ensures

pub returns-in-Err-clause-childless : goal.returns-in-Err-clause-childless
returns-in-Err-clause-childless g c = then_childless _ _ _ _ _ _ _ _ _ _ c.tool_of.ensures.asks (grind arith) c.requires.fresh c.tool_of.ensures.asks.holds.silent c.tool_of.ensures.asks.holds.childless

pub returns-in-Err-clause-outcome : goal.returns-in-Err-clause-outcome
returns-in-Err-clause-outcome g c =
    under_then _ _ _ _ _ _ _ _ _ _ c.tool_of.ensures.asks (grind arith) c.requires.fresh c.tool_of.ensures.asks.holds.silent
    (λ look agree. (
      c.tool_of.ensures.asks.holds.warns_of_link,
      then_outcome _ _ _ _ _ _ _ _ _ _ c.tool_of.ensures.asks (grind arith) c.requires.fresh c.tool_of.ensures.asks.holds.silent {T = ToolSeen}
          (tool_error c.args.task.now.set.now c.args.task.now.env.now look) (tool_steps c.args.task.now.set.now c.args.task.now.env.now (g.H.Host.listens c.args.host.now) c.tool_of.ensures.asks.holds.warns_of_link look) (Err c.or_no_memory.result)
          (unplanned_outcome ToolSeen c.tool_of.new.sight.answers.now (tool_warnings c.args.task.now.set.now c.args.task.now.env.now (g.H.Host.listens c.args.host.now)) (tool_refusal c.args.task.now.set.now c.args.task.now.env.now) c.args.task.now.set.now c.args.task.now.env.now c.tool_of.ensures.asks.rest c.tool_of.result c.in-Err.error c.or_no_memory.result look agree c.in-Err.is c.tool_of.ensures.asks.holds c.in-Err.ensures.refused
          (made_or_memory c.plan_error.result c.or_no_memory.result _ c.or_no_memory.ensures c.plan_error.ensures)),
    ))

pub returns-in-Ok-clause-answered : goal.returns-in-Ok-clause-answered
returns-in-Ok-clause-answered g c = then_answered _ _ _ _ _ _ _ _ _ _ c.tool_of.ensures.asks (grind arith) c.requires.fresh c.tool_of.ensures.asks.holds.silent _ (grind arith)

pub returns-in-Err-clause-answered : goal.returns-in-Err-clause-answered
returns-in-Err-clause-answered g c = then_answered _ _ _ _ _ _ _ _ _ _ c.tool_of.ensures.asks (grind arith) c.requires.fresh c.tool_of.ensures.asks.holds.silent _ (grind arith)
