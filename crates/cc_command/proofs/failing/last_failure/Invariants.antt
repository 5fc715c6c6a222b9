use Rattle.std.proofs.Common.{◌≡◌, take}
use Rattle.cc_command.specs.Failing.{unwatched, watched_from}
use Rattle.cc_command.proofs.failing.last_failure.Given as goal

-- what the events so far leave
abbrev pub invariant-loop-event : goal.invariant-loop-event
invariant-loop-event l = l.watch ≡ watched_from unwatched (take l.event-index l.log)
