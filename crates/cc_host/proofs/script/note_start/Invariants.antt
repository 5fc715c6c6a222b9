use Rattle.std.proofs.Common.{◌≡◌, ◌++◌, take, drop, map}
use Rattle.cc_host.specs.Script.{met_after}
use Rattle.cc_host.proofs.script.note_start.Given as goal

-- the scripts so far have been reported
abbrev pub invariant-loop-script : goal.invariant-loop-script
invariant-loop-script l = l.script-items ≡ map (met_after l.cmd) (take l.script-index l.fn.scripts.items) ++ drop l.script-index l.fn.scripts.items
