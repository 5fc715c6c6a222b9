use Rattle.std.proofs.Common.{◌≤◌}
use Rattle.cc_fresh.specs.Entries.{IsEntry}
use Rattle.cc_fresh.specs.InTurn.{pairs}
use Rattle.cc_fresh.specs.Reads.{Adds}
use Rattle.cc_fresh.proofs.InTurnLaws.{Going}
use Rattle.cc_fresh.proofs.entries.entries_of.Given as goal

-- the entries of the sources so far
abbrev pub invariant-loop-place : goal.invariant-loop-place
invariant-loop-place g l =
    record {
      read : Adds (g.F.Files.reads l.fn.files) (g.F.Files.reads l.files) (Going (IsEntry l.checks_object l.kept) (pairs l.units l.states) l.place l.record);
      later : g.F.Files.faults l.fn.files ≤ g.F.Files.faults l.files;
    }
