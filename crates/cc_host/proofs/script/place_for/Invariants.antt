use Rattle.std.proofs.Common.{◌≡◌, take}
use Rattle.cc_host.specs.Script.{script_at, script_for}
use Rattle.cc_host.proofs.script.place_for.Given as goal

-- the last script so far that fits
abbrev pub invariant-loop-place : goal.invariant-loop-place
invariant-loop-place l = script_at l.scripts l.last ≡ script_for (take l.place l.scripts) l.role l.cmd
