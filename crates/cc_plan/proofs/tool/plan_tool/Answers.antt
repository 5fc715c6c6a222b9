use Rattle.std.proofs.Common.{Ok, Err, inl, refl}
use Rattle.std.proofs.lemmas.Result.{err_from_is_err_and}
use Rattle.cc_tool.proofs.SettleLemmas.{holds_all}
use Rattle.cc_plan.proofs.AskingLemmas.{only_more}
use Rattle.cc_plan.proofs.PlanLaws.{own_allowed, own_ok, own_refused, quiet_of, tool_found, tool_in, warnings_in}
use Rattle.cc_plan.proofs.QuestionLemmas.{plan_asks}
use Rattle.cc_plan.specs.Refusal.{tool_refusal}
use Rattle.cc_plan.proofs.tool.plan_tool.Goals as goal

pub returns-in_err-found-clause-asks : goal.returns-in_err-found-clause-asks
returns-in_err-found-clause-asks g c = only_more c.settle_in.ensures.asks (holds_all (plan_asks c.args.set.now c.args.env.now))

pub returns-in_err-quiet-clause-asks : goal.returns-in_err-quiet-clause-asks
returns-in_err-quiet-clause-asks g c = only_more c.settle_in.ensures.asks (holds_all (plan_asks c.args.set.now c.args.env.now))

pub returns-in_err-warned-clause-asks : goal.returns-in_err-warned-clause-asks
returns-in_err-warned-clause-asks g c = only_more c.settle_in.ensures.asks (holds_all (plan_asks c.args.set.now c.args.env.now))

pub returns-clause-asks : goal.returns-clause-asks
returns-clause-asks g c = only_more c.settle_in.ensures.asks (holds_all (plan_asks c.args.set.now c.args.env.now))

pub returns-in_err-quiet-clause-refused : goal.returns-in_err-quiet-clause-refused
returns-in_err-quiet-clause-refused g c =
    let p = err_from_is_err_and c.from_residual-in_err-quiet.result c.from_residual-in_err-quiet.ensures.1 in
    rw (p.1, p.2) (own_refused (tool_refusal c.args.set.now c.args.env.now) (quiet_of c.args.set.now c.args.env.now) (Err c.in_err-quiet.field-0.0) c.in_ok-found.found.value c.in_err-quiet.ensures.same (tool_found c.args.set.now c.args.env.now c.in_ok-found.ensures.found))

-- only memory may be wanted behind the plan
pub returns-in_err-warned-clause-refused : goal.returns-in_err-warned-clause-refused
returns-in_err-warned-clause-refused g c =
    let p = err_from_is_err_and c.from_residual-in_err-warned.result c.from_residual-in_err-warned.ensures.1 in
    rw (p.1, p.2) (inl refl)

pub returns-clause-tool : goal.returns-clause-tool
returns-clause-tool g c =
    tool_in c.args.set.now c.args.env.now c.in_ok-quiet.quiet (own_ok (tool_refusal c.args.set.now c.args.env.now) (quiet_of c.args.set.now c.args.env.now) (Ok c.in_ok-quiet.quiet) c.in_ok-found.found.value c.in_ok-quiet.ensures.same (tool_found c.args.set.now c.args.env.now c.in_ok-found.ensures.found))

pub returns-clause-warnings : goal.returns-clause-warnings
returns-clause-warnings g c =
    warnings_in c.args.set.now c.args.env.now c.in_ok-quiet.quiet c.in_ok-warned.warned.is_first c.in_ok-warned.warned.warnings c.in_ok-warned.ensures
    (own_ok (tool_refusal c.args.set.now c.args.env.now) (quiet_of c.args.set.now c.args.env.now) (Ok c.in_ok-quiet.quiet) c.in_ok-found.found.value c.in_ok-quiet.ensures.same (tool_found c.args.set.now c.args.env.now c.in_ok-found.ensures.found))

pub returns-clause-allowed : goal.returns-clause-allowed
returns-clause-allowed g c = own_allowed (tool_refusal c.args.set.now c.args.env.now) (quiet_of c.args.set.now c.args.env.now) (Ok c.in_ok-quiet.quiet) c.in_ok-found.found.value c.in_ok-quiet.ensures.same (tool_found c.args.set.now c.args.env.now c.in_ok-found.ensures.found)
