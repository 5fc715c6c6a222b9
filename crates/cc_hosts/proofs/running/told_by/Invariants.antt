use Rattle.std.proofs.Common.{take}
use Rattle.cc_host.specs.ChildLog.{AreTold}
use Rattle.cc_hosts.proofs.running.told_by.Given as goal

abbrev pub invariant-loop-at : goal.invariant-loop-at
invariant-loop-at g l = AreTold (take l.at l.children) l.told.items
