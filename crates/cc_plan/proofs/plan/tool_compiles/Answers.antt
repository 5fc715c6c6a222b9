use Rattle.std.proofs.Common.{inl, inr, refl}
use Rattle.std.proofs.lemmas.Result.{err_from_is_err_and}
use Rattle.cc_tool.proofs.SettleLemmas.{holds_all}
use Rattle.cc_plan.proofs.AskingLemmas.{only_more}
use Rattle.cc_plan.proofs.PlanLaws.{quiet_in, tools_allowed, tools_compile, tools_ok, tools_refused, warnings_in}
use Rattle.cc_plan.proofs.QuestionLemmas.{tools_asks}
use Rattle.cc_plan.proofs.plan.tool_compiles.Goals as goal

pub returns-in_err-found-clause-asks : goal.returns-in_err-found-clause-asks
returns-in_err-found-clause-asks g c = only_more c.settle_in.ensures.asks (holds_all (tools_asks c.args.set.now c.args.env.now))

pub returns-in_err-tools-clause-asks : goal.returns-in_err-tools-clause-asks
returns-in_err-tools-clause-asks g c = only_more c.settle_in.ensures.asks (holds_all (tools_asks c.args.set.now c.args.env.now))

pub returns-in_err-warned-clause-asks : goal.returns-in_err-warned-clause-asks
returns-in_err-warned-clause-asks g c = only_more c.settle_in.ensures.asks (holds_all (tools_asks c.args.set.now c.args.env.now))

pub returns-in_err-compiles-clause-asks : goal.returns-in_err-compiles-clause-asks
returns-in_err-compiles-clause-asks g c = only_more c.settle_in.ensures.asks (holds_all (tools_asks c.args.set.now c.args.env.now))

pub returns-clause-asks : goal.returns-clause-asks
returns-clause-asks g c = only_more c.settle_in.ensures.asks (holds_all (tools_asks c.args.set.now c.args.env.now))

pub returns-in_err-tools-clause-refused : goal.returns-in_err-tools-clause-refused
returns-in_err-tools-clause-refused g c =
    let p = err_from_is_err_and c.from_residual-in_err-tools.result c.from_residual-in_err-tools.ensures.1 in
    rw (p.1, p.2) (inr (tools_refused c.args.set.now c.args.env.now c.in_ok-found.ensures.found c.in_err-tools.field-0.0 c.in_err-tools.was))

pub returns-in_err-warned-clause-refused : goal.returns-in_err-warned-clause-refused
returns-in_err-warned-clause-refused g c =
    let p = err_from_is_err_and c.from_residual-in_err-warned.result c.from_residual-in_err-warned.ensures.1 in
    rw (p.1, p.2) (inl refl)

pub returns-in_err-compiles-clause-refused : goal.returns-in_err-compiles-clause-refused
returns-in_err-compiles-clause-refused g c =
    let p = err_from_is_err_and c.from_residual-in_err-compiles.result c.from_residual-in_err-compiles.ensures.1 in
    rw (p.1, p.2) (inl refl)

pub returns-clause-warnings : goal.returns-clause-warnings
returns-clause-warnings g c =
    warnings_in c.args.set.now c.args.env.now c.in_ok-tools.tools.quiet c.in_ok-warned.warned.is_first c.in_ok-warned.warned.warnings c.in_ok-warned.ensures
    (quiet_in c.args.set.now c.args.env.now c.in_ok-tools.tools (tools_ok c.args.set.now c.args.env.now c.in_ok-found.ensures.found c.in_ok-tools.tools c.in_ok-tools.was))

pub returns-clause-compiles : goal.returns-clause-compiles
returns-clause-compiles g c =
    tools_compile c.args.set.now c.args.env.now c.in_ok-tools.tools _ _ c.args.objects.now _ c.target_info-target.ensures c.as_ref-assembler.ensures.value c.requires c.in_ok-compiles.ensures
    (tools_ok c.args.set.now c.args.env.now c.in_ok-found.ensures.found c.in_ok-tools.tools c.in_ok-tools.was)

pub returns-clause-allowed : goal.returns-clause-allowed
returns-clause-allowed g c = tools_allowed c.args.set.now c.args.env.now c.in_ok-found.ensures.found c.in_ok-tools.tools c.in_ok-tools.was
