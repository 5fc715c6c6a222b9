use Rattle.std.proofs.Common.{arith}
use Rattle.std.proofs.lemmas.Grind.{common_steps}
use Rattle.cc_host.proofs.ChildLemmas.{left_short}
use Rattle.cc_host.proofs.child.left_by.Goals as goal

pub returns-clause-len : goal.returns-clause-len
returns-clause-len c = grind (arith, common_steps, left_short c.args.children.now c.args.told.now, c.loop-at.invariant, c.loop-at.list.ok)
