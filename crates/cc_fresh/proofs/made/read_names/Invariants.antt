use Rattle.std.proofs.Common.{◌≤◌}
use Rattle.cc_fresh.specs.Reads.{Adds}
use Rattle.cc_fresh.proofs.MadeLaws.{Going}
use Rattle.cc_fresh.proofs.made.read_names.Given as goal

-- each of the files so far was read, and is there
abbrev pub invariant-loop-name : goal.invariant-loop-name
invariant-loop-name g l =
    record {
      read : Adds (g.F.Files.reads l.fn.files) (g.F.Files.reads l.files) (Going l.names l.name-index l.deps);
      later : g.F.Files.faults l.fn.files ≤ g.F.Files.faults l.files;
    }
