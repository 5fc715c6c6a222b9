use Rattle.std.proofs.Common.{rules, ◌≡◌, ◌∙◌, Err, sym, ap₂}
use Rattle.cc_tool.proofs.SettleLemmas.{settles_so}
use Rattle.cc_plan.specs.Plan.{warned_steps}
use Rattle.cc_plan.proofs.WarnLemmas.{warns_refused, warns_printed}
use Rattle.cc_plan.proofs.tool.tool_of.Goals as goal

pub returns-in_err-plan-clause-asks : goal.returns-in_err-plan-clause-asks
returns-in_err-plan-clause-asks g c =
    let r : c.from_residual.result ≡ Err c.in_err-plan.field-0.0 = search rules in
    warns_refused c.from_residual.result c.in_err-plan.field-0.0 r c.in_err-plan.ensures.own c.plan_tool.ensures.asks.asks c.plan_tool.ensures.asks.own

pub returns-in_err-warn_of-clause-asks : goal.returns-in_err-warn_of-clause-asks
returns-in_err-warn_of-clause-asks g c =
    let r : c.from_residual-in_err-warn_of.result ≡ Err c.in_err-warn_of.field-0.0 = search rules in
    rw r (warns_printed c.in_ok-plan.plan.warned.is_first _ _ c.plan_tool.ensures.asks.asks c.plan_tool.ensures.asks.own c.warn_of.ensures.extends
    (settles_so c.in_ok-plan.ensures.warnings (λ look a. ap₂ (warned_steps c.args.set.now) (sym c.listens-listens.ensures) a)) c.in_err-warn_of.ensures.warned c.warn_of.ensures.silent c.warn_of.ensures.childless)

pub returns-clause-asks : goal.returns-clause-asks
returns-clause-asks g c =
    warns_printed c.in_ok-plan.plan.warned.is_first _ _ c.plan_tool.ensures.asks.asks c.plan_tool.ensures.asks.own c.warn_of.ensures.extends
    (settles_so c.in_ok-plan.ensures.warnings (λ look a. ap₂ (warned_steps c.args.set.now) (sym c.listens-listens.ensures) a)) c.in_ok-warn_of.ensures.warned c.warn_of.ensures.silent c.warn_of.ensures.childless
