use Rattle.std.proofs.Common.{◌≡◌, ◌++◌, take, drop, map}
use Rattle.cc_command.proofs.FleetJobLaws.{with_listed}
use Rattle.cc_command.proofs.fleet.take_vars.Given as goal

-- the members so far have taken them
abbrev pub invariant-loop-member : goal.invariant-loop-member
invariant-loop-member g l = l.member-items ≡ map (with_listed l.vars) (take l.member-index l.fn.members.items) ++ drop l.member-index l.fn.members.items
