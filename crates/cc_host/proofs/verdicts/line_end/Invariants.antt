use Rattle.std.proofs.Common.{◌≡◌, ◌+◌, ◌-◌, ◌≤◌, length}
use Rattle.cc_host.proofs.VerdictLemmas.{more}
use Rattle.cc_host.proofs.verdicts.line_end.Given as goal

-- the line ends where it would from here on
abbrev pub invariant-loop-end : goal.invariant-loop-end
invariant-loop-end l = (l.end ≤ length l.out) × (l.end + more l.out l.end ≡ l.start + more l.out l.start)

abbrev pub decreases-loop-end : goal.decreases-loop-end
decreases-loop-end l = length l.out - l.end
