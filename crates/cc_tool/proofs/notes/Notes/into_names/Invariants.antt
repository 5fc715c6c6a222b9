use Rattle.std.proofs.Common.{◌≡◌}
use Rattle.cc_tool.proofs.notes.Notes.into_names.Given as goal

-- the list has the names so far
abbrev pub invariant-loop-name : goal.invariant-loop-name
invariant-loop-name l = l.list ≡ l.yielded
