use Rattle.std.proofs.Common.{rules, ◌≡◌, Err, false, sym, ap₂}
use Rattle.cc_tool.proofs.SettleLemmas.{settles_so}
use Rattle.cc_plan.specs.Plan.{warned_steps}
use Rattle.cc_plan.proofs.WarnLemmas.{warns_refused, warns_printed}
use Rattle.cc_plan.proofs.flag_verdict.flag_support.Goals as goal

pub returns-in_err-support-clause-asks : goal.returns-in_err-support-clause-asks
returns-in_err-support-clause-asks g c =
    let r : c.from_residual.result ≡ Err c.in_err-support.field-0.0 = search rules in
    warns_refused c.from_residual.result c.in_err-support.field-0.0 r c.in_err-support.ensures.own c.plan_support.ensures.asks.asks c.plan_support.ensures.asks.own

pub returns-in_err-warn_of-clause-asks : goal.returns-in_err-warn_of-clause-asks
returns-in_err-warn_of-clause-asks g c =
    let r : c.from_residual-in_err-warn_of.result ≡ Err c.in_err-warn_of.field-0.0 = search rules in
    rw r (warns_printed false _ _ c.plan_support.ensures.asks.asks c.plan_support.ensures.asks.own c.warn_of.ensures.extends
    (settles_so c.in_ok-support.ensures.warnings (λ look a. ap₂ (warned_steps c.args.set.now) (sym c.listens-listens.ensures) a)) c.in_err-warn_of.ensures.warned c.warn_of.ensures.silent c.warn_of.ensures.childless)
