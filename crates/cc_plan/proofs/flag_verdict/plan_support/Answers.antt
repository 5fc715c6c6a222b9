use Rattle.cc_tool.proofs.SettleLemmas.{holds_all}
use Rattle.cc_plan.specs.FlagSupport.{support_refusal}
use Rattle.cc_plan.proofs.AskingLemmas.{only_more}
use Rattle.cc_plan.proofs.PlanLaws.{own_ok, own_allowed, own_refused, support_of, support_found, verdict_found, compiler_found, warnings_found}
use Rattle.cc_plan.proofs.QuestionLemmas.{support_asks}
use Rattle.cc_plan.proofs.ResultLemmas.{ok_so}
use Rattle.cc_plan.proofs.flag_verdict.plan_support.Goals as goal

pub returns-in_err-found-clause-asks : goal.returns-in_err-found-clause-asks
returns-in_err-found-clause-asks g c = only_more c.settle_in.ensures.asks (holds_all (support_asks c.args.set.now c.args.env.now c.args.flag.now))

pub returns-clause-asks : goal.returns-clause-asks
returns-clause-asks g c = only_more c.settle_in.ensures.asks (holds_all (support_asks c.args.set.now c.args.env.now c.args.flag.now))

pub returns-clause-verdict : goal.returns-clause-verdict
returns-clause-verdict g c = ok_so c.own_refusal.result (own_ok (support_refusal c.args.set.now c.args.env.now c.args.flag.now) (support_of c.args.set.now c.args.env.now c.args.flag.now) c.own_refusal.result c.in_ok-found.found.value c.own_refusal.ensures.same (support_found c.args.set.now c.args.env.now c.args.flag.now c.in_ok-found.ensures.found)) (verdict_found c.args.set.now c.args.env.now c.args.flag.now)

pub returns-clause-compiler : goal.returns-clause-compiler
returns-clause-compiler g c = ok_so c.own_refusal.result (own_ok (support_refusal c.args.set.now c.args.env.now c.args.flag.now) (support_of c.args.set.now c.args.env.now c.args.flag.now) c.own_refusal.result c.in_ok-found.found.value c.own_refusal.ensures.same (support_found c.args.set.now c.args.env.now c.args.flag.now c.in_ok-found.ensures.found)) (compiler_found c.args.set.now c.args.env.now c.args.flag.now)

pub returns-clause-warnings : goal.returns-clause-warnings
returns-clause-warnings g c = ok_so c.own_refusal.result (own_ok (support_refusal c.args.set.now c.args.env.now c.args.flag.now) (support_of c.args.set.now c.args.env.now c.args.flag.now) c.own_refusal.result c.in_ok-found.found.value c.own_refusal.ensures.same (support_found c.args.set.now c.args.env.now c.args.flag.now c.in_ok-found.ensures.found)) (warnings_found c.args.set.now c.args.env.now c.args.flag.now)

pub returns-clause-allowed : goal.returns-clause-allowed
returns-clause-allowed g c = own_allowed (support_refusal c.args.set.now c.args.env.now c.args.flag.now) (support_of c.args.set.now c.args.env.now c.args.flag.now) c.own_refusal.result c.in_ok-found.found.value c.own_refusal.ensures.same (support_found c.args.set.now c.args.env.now c.args.flag.now c.in_ok-found.ensures.found)

pub returns-clause-refused : goal.returns-clause-refused
returns-clause-refused g c = own_refused (support_refusal c.args.set.now c.args.env.now c.args.flag.now) (support_of c.args.set.now c.args.env.now c.args.flag.now) c.own_refusal.result c.in_ok-found.found.value c.own_refusal.ensures.same (support_found c.args.set.now c.args.env.now c.args.flag.now c.in_ok-found.ensures.found)
