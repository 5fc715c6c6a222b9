use Rattle.std.proofs.Common.{◌≡◌, ◌++◌, drop}
use Rattle.cc_plan.specs.Archive.{paths_of}
use Rattle.cc_plan.proofs.archive.archived_paths.Given as goal

-- the paths so far, and those of the objects that are left, are all
abbrev pub invariant-loop-object : goal.invariant-loop-object
invariant-loop-object l = l.paths ++ paths_of (drop l.object-index l.objects) ≡ paths_of l.objects
