use Rattle.cc_tool.proofs.SettleLemmas.{holds_all, settles_map}
use Rattle.cc_plan.proofs.AskingLemmas.{only_more}
use Rattle.cc_plan.proofs.PlanLaws.{found_value}
use Rattle.cc_plan.proofs.StdlibLemmas.{link_asks, lines_settled}
use Rattle.cc_plan.proofs.link.plan_links.Goals as goal

pub returns-in_err-found-clause-asks : goal.returns-in_err-found-clause-asks
returns-in_err-found-clause-asks g c = only_more c.settle_in.ensures.asks (holds_all (link_asks c.args.set.now c.args.env.now))

pub returns-in_err-check_cpp-clause-asks : goal.returns-in_err-check_cpp-clause-asks
returns-in_err-check_cpp-clause-asks g c = only_more c.settle_in.ensures.asks (holds_all (link_asks c.args.set.now c.args.env.now))

pub returns-in_err-lines-clause-asks : goal.returns-in_err-lines-clause-asks
returns-in_err-lines-clause-asks g c = only_more c.settle_in.ensures.asks (holds_all (link_asks c.args.set.now c.args.env.now))

pub returns-clause-asks : goal.returns-clause-asks
returns-clause-asks g c = only_more c.settle_in.ensures.asks (holds_all (link_asks c.args.set.now c.args.env.now))

pub returns-clause-lines : goal.returns-clause-lines
returns-clause-lines g c = lines_settled c.args.set.now c.args.env.now c.args.name.now c.args.dir.now (settles_map (λ chosen. chosen.library) (found_value c.in_ok-found.ensures.found)) c.in_ok-lines.ensures

pub returns-clause-warnings : goal.returns-clause-warnings
returns-clause-warnings g c = settles_map (λ chosen. chosen.warnings) (found_value c.in_ok-found.ensures.found)
