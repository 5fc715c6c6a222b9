use Rattle.cc_plan.proofs.AskingLemmas.{only_more}
use Rattle.cc_plan.proofs.QuestionLemmas.{archiver_asks}
use Rattle.cc_tool.proofs.SettleLemmas.{holds_all}
use Rattle.cc_plan.proofs.archive.archiver_of.Goals as goal

pub returns-in_err-choice-clause-asks : goal.returns-in_err-choice-clause-asks
returns-in_err-choice-clause-asks g c = only_more c.tool_with_flags.ensures.asks (holds_all (archiver_asks c.args.set.now c.args.env.now))

pub returns-in_err-archiver-clause-asks : goal.returns-in_err-archiver-clause-asks
returns-in_err-archiver-clause-asks g c = only_more c.tool_with_flags.ensures.asks (holds_all (archiver_asks c.args.set.now c.args.env.now))

pub returns-clause-asks : goal.returns-clause-asks
returns-clause-asks g c = only_more c.tool_with_flags.ensures.asks (holds_all (archiver_asks c.args.set.now c.args.env.now))
