use Rattle.std.proofs.Common.{refl, sym, ◌∙◌, arith}
use Rattle.cc_tool.proofs.AskLemmas.{asks_grows, asks_then}
use Rattle.cc_tool.proofs.CauseLemmas.{asks_caused, with_files_none}
use Rattle.cc_tool.proofs.UsedLemmas.{used_none}
use Rattle.cc_tool.proofs.SeenLemmas.{plain_at}
use Rattle.cc_tool.proofs.PlannerLemmas.{asks_nothing, asks_both, asks_single, asks_next, quiet_next, more_next, files_next, words_both}
use Rattle.cc_tool.proofs.planner.ask_each.Goals as goal

pub loop-question-init : goal.loop-question-init
loop-question-init g c = record { asks = asks_nothing _ _; quiet = λ f. record { under = λ look a. refl }; start = λ e. refl; more = λ h. absurd (omega arith); bare = with_files_none (g.H.Host.log c.args.host.now); used = used_none (g.H.Host.log c.args.host.now); patient = refl }

pub returns-in_err-verdict-clause-asks : goal.returns-in_err-verdict-clause-asks
returns-in_err-verdict-clause-asks g c = asks_both c.loop-question.invariant.asks
    (asks_single c.question-item.result c.ask.result c.ask.ensures.asks c.ask.ensures.own (plain_at c.args.questions.now c.loop-question.question-index c.question-item.result c.loop-question-test.true c.question-item.is c.requires.plain)
    (asks_next (g.P.Planner.plan c.args.planner.now) c.args.first c.args.answers.now c.loop-question.answers c.ask.new.answers c.args.questions.now c.loop-question.question-index c.question-item.result c.requires (asks_grows c.loop-question.invariant.asks.asks) (asks_grows c.ask.ensures.asks) c.loop-question.invariant.quiet c.loop-question-test.true c.question-item.is))

pub loop-question-preserved : goal.loop-question-preserved
loop-question-preserved g c = record {
  asks = asks_both c.loop-question.invariant.asks
      (asks_single c.question-item.result c.ask.result c.ask.ensures.asks c.ask.ensures.own (plain_at c.args.questions.now c.loop-question.question-index c.question-item.result c.loop-question-test.true c.question-item.is c.requires.plain)
      (asks_next (g.P.Planner.plan c.args.planner.now) c.args.first c.args.answers.now c.loop-question.answers c.ask.new.answers c.args.questions.now c.loop-question.question-index c.question-item.result c.requires (asks_grows c.loop-question.invariant.asks.asks) (asks_grows c.ask.ensures.asks) c.loop-question.invariant.quiet c.loop-question-test.true c.question-item.is));
  quiet = quiet_next c.args.first c.loop-question.answers c.ask.new.answers c.args.questions.now c.loop-question.question-index c.question-item.result c.in_ok-verdict.verdict (asks_grows c.ask.ensures.asks) c.loop-question.invariant.quiet c.question-item.is (plain_at c.args.questions.now c.loop-question.question-index c.question-item.result c.loop-question-test.true c.question-item.is c.requires.plain) c.in_ok-verdict.ensures.settles (sym c.ends_search.ensures ∙ c.if-ends_search.false);
  start = λ e. absurd (omega arith);
  more = λ h. more_next c.args.answers.now c.loop-question.answers c.ask.new.answers _ _ c.args.questions.now c.loop-question.question-index c.question-item.result c.in_ok-verdict.verdict c.loop-question.invariant.start c.loop-question.invariant.more c.ask.ensures.asks c.in_ok-verdict.ensures.own (plain_at c.args.questions.now c.loop-question.question-index c.question-item.result c.loop-question-test.true c.question-item.is c.requires.plain) c.requires.opens c.loop-question-test.true c.question-item.is;
  bare = files_next c.loop-question.invariant.asks.asks c.ask.ensures.asks c.question-item.result c.in_ok-verdict.verdict c.in_ok-verdict.ensures.own c.ask.ensures.bare c.loop-question.invariant.bare;
  used = words_both c.loop-question.invariant.asks.asks c.ask.ensures.asks c.loop-question.invariant.used c.in_ok-verdict.ensures.used;
  patient = c.ask.ensures.patient ∙ c.loop-question.invariant.patient;
}

pub returns-in_err-verdict-clause-cause : goal.returns-in_err-verdict-clause-cause
returns-in_err-verdict-clause-cause g c = asks_caused (asks_then c.loop-question.invariant.asks.asks c.ask.ensures.asks)

pub returns-after-loop-question-clause-cause : goal.returns-after-loop-question-clause-cause
returns-after-loop-question-clause-cause g c = asks_caused c.loop-question.invariant.asks.asks

pub returns-then-ends_search-clause-asks : goal.returns-then-ends_search-clause-asks
returns-then-ends_search-clause-asks g c = asks_both c.loop-question.invariant.asks
    (asks_single c.question-item.result c.ask.result c.ask.ensures.asks c.ask.ensures.own (plain_at c.args.questions.now c.loop-question.question-index c.question-item.result c.loop-question-test.true c.question-item.is c.requires.plain)
    (asks_next (g.P.Planner.plan c.args.planner.now) c.args.first c.args.answers.now c.loop-question.answers c.ask.new.answers c.args.questions.now c.loop-question.question-index c.question-item.result c.requires (asks_grows c.loop-question.invariant.asks.asks) (asks_grows c.ask.ensures.asks) c.loop-question.invariant.quiet c.loop-question-test.true c.question-item.is))

pub returns-then-ends_search-clause-more : goal.returns-then-ends_search-clause-more
returns-then-ends_search-clause-more g c = more_next c.args.answers.now c.loop-question.answers c.ask.new.answers _ _ c.args.questions.now c.loop-question.question-index c.question-item.result c.in_ok-verdict.verdict c.loop-question.invariant.start c.loop-question.invariant.more c.ask.ensures.asks c.in_ok-verdict.ensures.own (plain_at c.args.questions.now c.loop-question.question-index c.question-item.result c.loop-question-test.true c.question-item.is c.requires.plain) c.requires.opens c.loop-question-test.true c.question-item.is

pub returns-then-ends_search-clause-cause : goal.returns-then-ends_search-clause-cause
returns-then-ends_search-clause-cause g c = asks_caused (asks_then c.loop-question.invariant.asks.asks c.ask.ensures.asks)

pub returns-then-ends_search-clause-used : goal.returns-then-ends_search-clause-used
returns-then-ends_search-clause-used g c = words_both c.loop-question.invariant.asks.asks c.ask.ensures.asks c.loop-question.invariant.used c.in_ok-verdict.ensures.used
