use Rattle.std.proofs.Common.{refl, ◌∙◌}
use Rattle.cc_tool.proofs.AskLemmas.{asks_then}
use Rattle.cc_tool.proofs.CauseLemmas.{asks_caused, with_files_none, with_files_then}
use Rattle.cc_tool.proofs.UsedLemmas.{used_none}
use Rattle.cc_tool.proofs.PlannerLemmas.{asks_nothing, asks_both, words_both}
use Rattle.cc_tool.proofs.planner.settle.Goals as goal

pub loop-value-init : goal.loop-value-init
loop-value-init g c = record { asks = asks_nothing _ _; bare = with_files_none (g.H.Host.log c.args.host.now); used = used_none (g.H.Host.log c.args.host.now); patient = refl }

pub loop-value-preserved : goal.loop-value-preserved
loop-value-preserved g c = record { asks = asks_both c.loop-value.invariant.asks c.ask_each.ensures.asks; bare = with_files_then c.loop-value.invariant.asks.asks c.ask_each.ensures.asks.asks c.loop-value.invariant.bare c.in_ok-ask_each-in-Err-Ask.ensures.bare; used = words_both c.loop-value.invariant.asks.asks c.ask_each.ensures.asks.asks c.loop-value.invariant.used c.in_ok-ask_each-in-Err-Ask.ensures.used; patient = c.ask_each.ensures.patient ∙ c.loop-value.invariant.patient }

pub returns-in_err-ask_each-in-Err-Ask-clause-asks : goal.returns-in_err-ask_each-in-Err-Ask-clause-asks
returns-in_err-ask_each-in-Err-Ask-clause-asks g c = asks_both c.loop-value.invariant.asks c.ask_each.ensures.asks

pub returns-in-Ok-clause-cause : goal.returns-in-Ok-clause-cause
returns-in-Ok-clause-cause g c = asks_caused c.loop-value.invariant.asks.asks

pub returns-in-Err-NoMemory-clause-cause : goal.returns-in-Err-NoMemory-clause-cause
returns-in-Err-NoMemory-clause-cause g c = asks_caused c.loop-value.invariant.asks.asks

pub returns-in_err-ask_each-in-Err-Ask-clause-cause : goal.returns-in_err-ask_each-in-Err-Ask-clause-cause
returns-in_err-ask_each-in-Err-Ask-clause-cause g c = asks_caused (asks_then c.loop-value.invariant.asks.asks c.ask_each.ensures.asks.asks)
