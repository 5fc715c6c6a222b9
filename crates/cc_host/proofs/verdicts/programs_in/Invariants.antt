use Rattle.std.proofs.Common.{◌≡◌, ◌+◌, ◌-◌, ◌≤◌, ◌<◌, length, drop, None}
use Rattle.cc_host.proofs.VerdictLemmas.{found}
use Rattle.cc_host.proofs.verdicts.programs_in.Given as goal

-- no line that ended so far tells of programs
abbrev pub invariant-loop-start : goal.invariant-loop-start
invariant-loop-start l = (l.start ≤ length l.out + 1) × (l.start ≤ length l.out → found l.out ≡ found (drop l.start l.out)) × (length l.out < l.start → found l.out ≡ None)

abbrev pub decreases-loop-start : goal.decreases-loop-start
decreases-loop-start l = length l.out + 1 - l.start
