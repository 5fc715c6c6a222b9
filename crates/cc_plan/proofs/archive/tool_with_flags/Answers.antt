use Rattle.cc_tool.proofs.SettleLemmas.{holds_all}
use Rattle.cc_plan.proofs.AskingLemmas.{only_more}
use Rattle.cc_plan.proofs.PlanLaws.{archive_value, found_as, result_value, result_allowed, result_refused}
use Rattle.cc_plan.proofs.QuestionLemmas.{archive_tool_asks}
use Rattle.cc_plan.specs.ArchiveTool.{archive_tool}
use Rattle.cc_plan.specs.Halts.{by_refusal}
use Rattle.cc_plan.specs.Refusal.{archive_tool_refusal}
use Rattle.cc_plan.proofs.archive.tool_with_flags.Goals as goal

pub returns-in_err-found-clause-asks : goal.returns-in_err-found-clause-asks
returns-in_err-found-clause-asks g c = only_more c.settle_in.ensures.asks (holds_all (archive_tool_asks c.args.tool c.args.set.now c.args.env.now))

pub returns-clause-asks : goal.returns-clause-asks
returns-clause-asks g c = only_more c.settle_in.ensures.asks (holds_all (archive_tool_asks c.args.tool c.args.set.now c.args.env.now))

pub returns-clause-settles : goal.returns-clause-settles
returns-clause-settles g c =
    result_value (archive_tool_refusal c.args.tool c.args.set.now c.args.env.now) (archive_tool c.args.tool c.args.set.now c.args.env.now) c.in_ok-found.found.value
    (found_as (λ look. by_refusal (archive_tool_refusal c.args.tool c.args.set.now c.args.env.now look) (archive_tool c.args.tool c.args.set.now c.args.env.now look)) (archive_value c.args.tool c.args.set.now c.args.env.now) c.in_ok-found.ensures.found)

pub returns-clause-allowed : goal.returns-clause-allowed
returns-clause-allowed g c =
    result_allowed (archive_tool_refusal c.args.tool c.args.set.now c.args.env.now) (archive_tool c.args.tool c.args.set.now c.args.env.now) c.in_ok-found.found.value
    (found_as (λ look. by_refusal (archive_tool_refusal c.args.tool c.args.set.now c.args.env.now look) (archive_tool c.args.tool c.args.set.now c.args.env.now look)) (archive_value c.args.tool c.args.set.now c.args.env.now) c.in_ok-found.ensures.found)

pub returns-clause-refused : goal.returns-clause-refused
returns-clause-refused g c =
    result_refused (archive_tool_refusal c.args.tool c.args.set.now c.args.env.now) (archive_tool c.args.tool c.args.set.now c.args.env.now) c.in_ok-found.found.value
    (found_as (λ look. by_refusal (archive_tool_refusal c.args.tool c.args.set.now c.args.env.now look) (archive_tool c.args.tool c.args.set.now c.args.env.now look)) (archive_value c.args.tool c.args.set.now c.args.env.now) c.in_ok-found.ensures.found)
