use Rattle.std.proofs.Common.{◌≡◌, ◌++◌, drop}
use Rattle.cc_command.specs.Database.{entries_by}
use Rattle.cc_command.proofs.database.entries_by.Given as goal

-- the entries so far, and those of the rest
abbrev pub invariant-loop-place : goal.invariant-loop-place
invariant-loop-place l = l.entries.items ++ entries_by l.here (drop l.place l.objects) (drop l.place l.cmds) ≡ entries_by l.here l.objects l.cmds
