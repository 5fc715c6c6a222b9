use Rattle.std.proofs.Common.{◌≡◌, map, take, Some}
use Rattle.serde_json.specs.View.{view}
use Rattle.cc_db.specs.Read.{command_of}
use Rattle.cc_db.proofs.read.commands_in.Given as goal

-- the commands are those of the entries so far
abbrev pub invariant-loop-value : goal.invariant-loop-value
invariant-loop-value l = map command_of (map view (take l.value-index l.values)) ≡ map Some l.commands.items
