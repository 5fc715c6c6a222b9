use Rattle.std.proofs.Common.{◌≡◌, true, arith}
use Rattle.std.proofs.lemmas.Grind.{common_steps}
use Rattle.cc_flags.specs.Variables.{wants_reruns}
use Rattle.cc_tool.proofs.SettleLemmas.{holds_all}
use Rattle.cc_plan.proofs.AskingLemmas.{only_more}
use Rattle.cc_plan.proofs.PlanLaws.{names_found}
use Rattle.cc_plan.proofs.QuestionLemmas.{names_asks}
use Rattle.cc_plan.proofs.ResultLemmas.{ok_so}
use Rattle.cc_plan.proofs.reruns.rerun_names.Goals as goal

pub returns-in_err-found-clause-asks : goal.returns-in_err-found-clause-asks
returns-in_err-found-clause-asks g c = only_more c.settle_in.ensures.asks (holds_all (names_asks c.args.set.now c.args.env.now c.args.reads))

pub returns-clause-asks : goal.returns-clause-asks
returns-clause-asks g c = only_more c.settle_in.ensures.asks (holds_all (names_asks c.args.set.now c.args.env.now c.args.reads))

pub returns-clause-settles : goal.returns-clause-settles
returns-clause-settles g c =
    let wants : wants_reruns c.args.set.now ≡ true = grind (arith, common_steps) in
    ok_so c.into_names.result c.into_names.ensures (λ names e. names_found c.args.set.now c.args.env.now c.args.reads names wants e c.in_ok-found.ensures.found)
