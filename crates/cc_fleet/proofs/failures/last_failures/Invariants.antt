use Rattle.std.proofs.Common.{◌≡◌, ◌<◌, ℕ, None, length, take}
use Rattle.std.specs.List.{slice_index_or}
use Rattle.cc_fleet.specs.Failures.{failure_of}
use Rattle.cc_fleet.proofs.failures.last_failures.Given as goal

-- the failures by the marks so far
abbrev pub invariant-loop-mark : goal.invariant-loop-mark
invariant-loop-mark l = record {
  size : length l.failures.items ≡ l.count;
  each : (member : ℕ) → member < l.count → slice_index_or l.failures.items member None ≡ failure_of l.owners (take l.mark-index l.marks) member;
}
