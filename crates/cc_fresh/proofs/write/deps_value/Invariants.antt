use Rattle.std.proofs.Common.{◌≡◌, map, take}
use Rattle.serde_json.specs.View.{view}
use Rattle.cc_fresh.specs.Record.{dep_data}
use Rattle.cc_fresh.proofs.write.deps_value.Given as goal

-- the values of the files so far
abbrev pub invariant-loop-path : goal.invariant-loop-path
invariant-loop-path l = map view l.values.items ≡ map dep_data (take l.path-index l.deps)
