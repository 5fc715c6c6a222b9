use Rattle.std.proofs.Common.{◌≡◌, take}
use Rattle.cc_command.specs.Database.{compile_starts}
use Rattle.cc_command.proofs.database.compile_starts.Given as goal

-- the commands of the events so far
abbrev pub invariant-loop-event : goal.invariant-loop-event
invariant-loop-event l = l.cmds.items ≡ compile_starts (take l.event-index l.log)
