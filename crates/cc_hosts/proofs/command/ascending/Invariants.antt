use Rattle.std.proofs.Common.{◌≡◌, ◌+◌, ◌-◌, ◌<◌, length, take, true}
use Rattle.cc_text.specs.Vars.{names_ascend}
use Rattle.cc_hosts.proofs.command.ascending.Given as goal

abbrev pub invariant-loop-last : goal.invariant-loop-last
invariant-loop-last l = record {
  within : l.last < length l.vars;
  ascends : names_ascend (take (l.last + 1) l.vars) ≡ true;
}

abbrev pub decreases-loop-last : goal.decreases-loop-last
decreases-loop-last l = length l.vars - l.last
