use Rattle.std.proofs.Common.{◌≡◌, ◌++◌, drop}
use Rattle.cc_command.specs.Fleets.{refusals}
use Rattle.cc_command.proofs.fleet_lines.refusals.Given as goal

-- the errors so far, and those of the rest
abbrev pub invariant-loop-place : goal.invariant-loop-place
invariant-loop-place l = l.errors.items ++ refusals (drop l.place l.ends) ≡ refusals l.ends
