use Rattle.std.proofs.Common.{◌≡◌, None, drop}
use Rattle.cc_run.specs.Marks.{failure_from}
use Rattle.cc_run.proofs.all.failure_of.Given as goal

abbrev pub invariant-loop-mark : goal.invariant-loop-mark
invariant-loop-mark l = failure_from l.last (drop l.mark-index l.marks) ≡ failure_from None l.marks
