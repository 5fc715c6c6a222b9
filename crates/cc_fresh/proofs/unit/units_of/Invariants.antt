use Rattle.std.proofs.Common.{◌≡◌, ◌++◌, map, drop}
use Rattle.cc_fresh.specs.InTurn.{pairs}
use Rattle.cc_fresh.specs.Unit.{unit_of, units_of}
use Rattle.cc_fresh.proofs.unit.units_of.Given as goal

-- the sources so far, and those of the rest
abbrev pub invariant-loop-place : goal.invariant-loop-place
invariant-loop-place l = l.units.items ++ map unit_of (drop l.place (pairs l.objects l.commands)) ≡ units_of l.objects l.commands
