use Rattle.std.proofs.Common.{◌≡◌, map, take, Some}
use Rattle.serde_json.specs.View.{view}
use Rattle.cc_graph.specs.Read.{place_of}
use Rattle.cc_graph.proofs.read.places_among.Given as goal

-- the needs are the places so far
abbrev pub invariant-loop-value : goal.invariant-loop-value
invariant-loop-value l = map place_of (map view (take l.value-index l.values)) ≡ map Some l.needs
