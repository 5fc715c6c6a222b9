use Rattle.std.proofs.Common.{◌≡◌, ◌≤◌, ℕ, List, length, drop}
use Rattle.std.specs.Process.{command_var, clears_env, SameProgramAndArgs, SameDir}
use Rattle.cc_hosts.specs.Child.{value_over}
use Rattle.cc_hosts.proofs.command.set_ascending.Given as goal

-- the variables from `left` on are set
abbrev pub invariant-loop-left : goal.invariant-loop-left
invariant-loop-left l = record {
  within : l.left ≤ length l.vars;
  vars : (name : List ℕ) → command_var l.child name ≡ value_over (drop l.left l.vars) (command_var l.initial.child) name;
  clears : clears_env l.child ≡ clears_env l.initial.child;
  call : SameProgramAndArgs l.initial.child l.child;
  dir : SameDir l.initial.child l.child;
}

abbrev pub decreases-loop-left : goal.decreases-loop-left
decreases-loop-left l = l.left
