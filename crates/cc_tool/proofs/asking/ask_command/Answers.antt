use Rattle.std.proofs.Common.{sym}
use Rattle.cc_tool.proofs.AskLemmas.{command_asks, copy_settles, last_settles}
use Rattle.cc_tool.proofs.asking.ask_command.Goals as goal

pub returns-in-Some-clause-settles : goal.returns-in-Some-clause-settles
returns-in-Some-clause-settles g c = copy_settles c.try_clone.result c.of-key.result.question.now c.args.q.now c.in-Some.verdict.now c.try_clone.ensures c.in-Some.ensures c.of-key.ensures

pub returns-in-Ok-clause-asks : goal.returns-in-Ok-clause-asks
returns-in-Ok-clause-asks g c =
    command_asks c.of-key.result.question.now c.in-Ok.heard.verdict c.in-Ok.ensures.probes c.in-None.ensures c.in-Ok.ensures.steady
    (c.finish.ensures.ends c.args.answers.now _ c.in_ok-begin.ensures.ok)

pub returns-in-Ok-clause-settles : goal.returns-in-Ok-clause-settles
returns-in-Ok-clause-settles g c =
    rw (sym c.of-key.ensures)
    (last_settles c.args.answers.now c.finish.result c.of-key.result.question.now c.in-Ok.heard.verdict c.finish.ensures.same
    (c.finish.ensures.ends c.args.answers.now _ c.in_ok-begin.ensures.ok))
