use Rattle.std.proofs.Common.{◌≡◌, take}
use Rattle.std.specs.BTreeSet.{keys}
use Rattle.cc_flags.specs.Variables.{in_order}
use Rattle.cc_flags.proofs.variables.sorted.Given as goal

-- the names so far are in order
abbrev pub invariant-loop-name : goal.invariant-loop-name
invariant-loop-name l = keys l.set ≡ in_order (take l.name-index l.names)
