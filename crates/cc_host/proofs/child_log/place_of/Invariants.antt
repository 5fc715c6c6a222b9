use Rattle.std.proofs.Common.{◌≡◌, ◌++◌, take, drop}
use Rattle.cc_host.specs.ChildLog.{without_child}
use Rattle.cc_host.proofs.child_log.place_of.Given as goal

-- none of the children so far has the id
abbrev pub invariant-loop-at : goal.invariant-loop-at
invariant-loop-at l = take l.at l.children ++ without_child l.id (drop l.at l.children) ≡ without_child l.id l.children
