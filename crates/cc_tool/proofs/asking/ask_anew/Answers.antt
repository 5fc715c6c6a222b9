use Rattle.cc_tool.proofs.AskLemmas.{verdict_steady}
use Rattle.cc_tool.proofs.asking.ask_anew.Goals as goal

pub returns-clause-steady : goal.returns-clause-steady
returns-clause-steady g c = λ n s. verdict_steady c.args.q.now c.in_ok-outcome.outcome (g.W.World.answer c.args.q.now) c.into_verdict.result c.into_verdict.ensures n (c.in_ok-outcome.ensures.steady s)
