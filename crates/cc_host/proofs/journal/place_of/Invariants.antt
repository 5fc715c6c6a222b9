use Rattle.std.proofs.Common.{◌≡◌, take}
use Rattle.cc_host.specs.Probe.{times}
use Rattle.cc_host.proofs.journal.place_of.Given as goal

-- none of the files so far has the path
abbrev pub invariant-loop-at : goal.invariant-loop-at
invariant-loop-at l = times l.path (take l.at l.files) ≡ 0
