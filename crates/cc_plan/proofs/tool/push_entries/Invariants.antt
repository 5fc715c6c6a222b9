use Rattle.std.proofs.Common.{◌≡◌, ◌++◌, take}
use Rattle.cc_plan.proofs.tool.push_entries.Given as goal

abbrev pub invariant-loop-entry : goal.invariant-loop-entry
invariant-loop-entry l = l.tool ≡ record l.fn.tool { entries = l.fn.tool.entries ++ take l.entry-index l.entry-items }
