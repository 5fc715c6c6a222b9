use Rattle.std.proofs.Common.{◌≡◌, take}
use Rattle.cc_plan.specs.Archive.{paths_of}
use Rattle.cc_fleet.proofs.paths.object_paths.Given as goal

-- the paths so far are those of the objects so far
abbrev pub invariant-loop-object : goal.invariant-loop-object
invariant-loop-object l = l.paths ≡ paths_of (take l.object-index l.objects)
