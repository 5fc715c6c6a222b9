use Rattle.std.proofs.Common.{◌≡◌, take}
use Rattle.cc_host.specs.ChildLog.{left_by}
use Rattle.cc_host.proofs.child.left_by.Given as goal

abbrev pub invariant-loop-at : goal.invariant-loop-at
invariant-loop-at l = l.list.items ≡ left_by (take l.at l.children) (take l.at l.told)
