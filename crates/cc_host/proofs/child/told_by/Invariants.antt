use Rattle.std.proofs.Common.{◌≡◌, take, map}
use Rattle.cc_host.specs.ChildLog.{news_of}
use Rattle.cc_host.proofs.child.told_by.Given as goal

abbrev pub invariant-loop-child : goal.invariant-loop-child
invariant-loop-child l = l.list.items ≡ map (news_of l.scripts) (take l.child-index l.children)
