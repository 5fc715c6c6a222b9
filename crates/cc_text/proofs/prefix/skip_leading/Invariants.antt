use Rattle.std.proofs.Common.{◌≡◌, ◌-◌, ◌≤◌, ◌<◌, length, get_or, drop}
use Rattle.cc_text.specs.Components.{skip_leading}
use Rattle.cc_text.proofs.prefix.skip_leading.Given as goal

-- what is skipped ends with an ASCII byte
abbrev pub invariant-loop-start : goal.invariant-loop-start
invariant-loop-start l = (l.start ≤ length l.text) × (skip_leading (drop l.start l.text) ≡ skip_leading l.text) × (0 < l.start → get_or l.text (l.start - 1) 0 < 128)

abbrev pub decreases-loop-start : goal.decreases-loop-start
decreases-loop-start l = length l.text - l.start
