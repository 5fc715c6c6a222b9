use Rattle.std.proofs.Common.{◌∙◌, sym, ap}
use Rattle.cc_command.specs.Failing.{unwatched, watched}
use Rattle.cc_command.proofs.FailingLaws.{watched_more}
use Rattle.cc_command.proofs.failing.last_failure.Goals as goal

pub loop-event-preserved : goal.loop-event-preserved
loop-event-preserved c =
    c.in_ok-note.ensures ∙ ap (λ w. watched w c.event-item.result) c.loop-event.invariant ∙ sym (watched_more unwatched c.args.log.now c.loop-event.event-index c.event-item.result c.loop-event-test.true c.event-item.is)
