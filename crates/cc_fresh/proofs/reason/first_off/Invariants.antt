use Rattle.std.proofs.Common.{◌≤◌}
use Rattle.cc_fresh.specs.Reads.{Adds}
use Rattle.cc_fresh.proofs.ReasonLaws.{Going}
use Rattle.cc_fresh.proofs.reason.first_off.Given as goal

-- each of the files so far was read, and agrees
abbrev pub invariant-loop-place : goal.invariant-loop-place
invariant-loop-place g l =
    record {
      read : Adds (g.F.Files.reads l.fn.files) (g.F.Files.reads l.files) (Going l.deps l.place);
      later : g.F.Files.faults l.fn.files ≤ g.F.Files.faults l.files;
    }
