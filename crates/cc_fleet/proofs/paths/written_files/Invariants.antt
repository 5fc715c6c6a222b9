use Rattle.std.proofs.Common.{◌≡◌, map, take}
use Rattle.cc_fleet.specs.Fleet.{files_of as files_by, members_seen}
use Rattle.cc_fleet.proofs.paths.written_files.Given as goal

-- the files of the members so far
abbrev pub invariant-loop-place : goal.invariant-loop-place
invariant-loop-place g l = l.files.items ≡ map files_by (members_seen (take l.place l.members))
