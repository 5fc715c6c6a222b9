use Rattle.std.proofs.Common.{◌≡◌, ◌++◌, take, drop}
use Rattle.cc_command.specs.Failing.{command_of, without}
use Rattle.cc_command.proofs.failing.find.Given as goal

abbrev pub invariant-loop-at : goal.invariant-loop-at
invariant-loop-at l = record {
  command : command_of l.id l.running ≡ command_of l.id (drop l.at l.running);
  rest : without l.id l.running ≡ take l.at l.running ++ without l.id (drop l.at l.running);
}
