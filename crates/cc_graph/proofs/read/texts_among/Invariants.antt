use Rattle.std.proofs.Common.{◌≡◌, map, take, Some}
use Rattle.serde_json.specs.Find.{as_str}
use Rattle.serde_json.specs.View.{view}
use Rattle.cc_graph.proofs.read.texts_among.Given as goal

-- the words are the texts so far
abbrev pub invariant-loop-value : goal.invariant-loop-value
invariant-loop-value l = map as_str (map view (take l.value-index l.values)) ≡ map Some l.words
