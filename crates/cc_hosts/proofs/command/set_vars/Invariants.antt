use Rattle.std.proofs.Common.{◌≡◌, ◌≤◌, ◌-◌, ℕ, List, length, take}
use Rattle.std.specs.Process.{command_var, clears_env, SameProgramAndArgs, SameDir}
use Rattle.cc_hosts.specs.Child.{child_value}
use Rattle.cc_hosts.proofs.command.set_vars.Given as goal

-- the variables before `start` are set
abbrev pub invariant-loop-start : goal.invariant-loop-start
invariant-loop-start l = record {
  within : l.start ≤ length l.pairs;
  vars : (name : List ℕ) → command_var l.child name ≡ child_value (take l.start l.pairs) name;
  clears : clears_env l.child ≡ clears_env l.initial.child;
  call : SameProgramAndArgs l.initial.child l.child;
  dir : SameDir l.initial.child l.child;
}

abbrev pub decreases-loop-start : goal.decreases-loop-start
decreases-loop-start l = length l.pairs - l.start
