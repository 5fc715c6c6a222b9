use Rattle.cc_fleet.specs.Clash.{IsNoted, Owns}
use Rattle.cc_fleet.proofs.clash.find_clash.Given as goal

-- the owners of the files so far, and the first two of one file
abbrev pub invariant-loop-place : goal.invariant-loop-place
invariant-loop-place l = IsNoted (Owns l.members l.place 0) l.place l.owners l.first

abbrev pub invariant-loop-path : goal.invariant-loop-path
invariant-loop-path l = IsNoted (Owns l.members l.place l.path-index) l.place l.owners l.first
