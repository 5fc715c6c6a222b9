use Rattle.std.proofs.Common.{◌≡◌, map, take, Some}
use Rattle.serde_json.specs.View.{view}
use Rattle.cc_fresh.specs.Record.{entry_of}
use Rattle.cc_fresh.proofs.read.entries_among.Given as goal

-- the entries so far
abbrev pub invariant-loop-value : goal.invariant-loop-value
invariant-loop-value l = map entry_of (map view (take l.value-index l.values)) ≡ map Some l.entries.items
