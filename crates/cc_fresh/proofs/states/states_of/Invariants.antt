use Rattle.std.proofs.Common.{◌≤◌}
use Rattle.cc_fresh.specs.Choice.{IsState}
use Rattle.cc_fresh.specs.InTurn.{pairs}
use Rattle.cc_fresh.specs.Reads.{Adds}
use Rattle.cc_fresh.proofs.InTurnLaws.{Going}
use Rattle.cc_fresh.proofs.states.states_of.Given as goal

-- the states of the sources so far
abbrev pub invariant-loop-place : goal.invariant-loop-place
invariant-loop-place g l =
    record {
      read : Adds (g.F.Files.reads l.fn.files) (g.F.Files.reads l.files) (Going IsState (pairs l.units l.choices) l.place l.states.items);
      later : g.F.Files.faults l.fn.files ≤ g.F.Files.faults l.files;
    }
