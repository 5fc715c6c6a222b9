use Rattle.cc_tool.proofs.SettleLemmas.{holds_all}
use Rattle.cc_plan.proofs.AskingLemmas.{only_more}
use Rattle.cc_plan.proofs.PlanLaws.{assembler_found}
use Rattle.cc_plan.proofs.QuestionLemmas.{assembler_asks}
use Rattle.cc_plan.proofs.assembler.assembler_of.Goals as goal

pub returns-in_err-found-clause-asks : goal.returns-in_err-found-clause-asks
returns-in_err-found-clause-asks g c = only_more c.settle_in.ensures.asks (holds_all (assembler_asks c.args.set.now c.args.env.now _ _ _ c.args.tool.now c.in_ok-target.ensures.info c.family.ensures c.path.ensures))

pub returns-clause-asks : goal.returns-clause-asks
returns-clause-asks g c = only_more c.settle_in.ensures.asks (holds_all (assembler_asks c.args.set.now c.args.env.now _ _ _ c.args.tool.now c.in_ok-target.ensures.info c.family.ensures c.path.ensures))

pub returns-clause-settles : goal.returns-clause-settles
returns-clause-settles g c = assembler_found c.args.set.now c.args.env.now _ _ _ c.args.tool.now c.in_ok-target.ensures.info c.family.ensures c.path.ensures c.in_ok-found.ensures.found
