use Rattle.std.proofs.Common.{◌∙◌, sym, ap, map}
use Rattle.serde_json.specs.View.{view}
use Rattle.cc_graph.specs.Read.{all_some, place_of}
use Rattle.cc_graph.proofs.ReadLemmas.{places_there}
use Rattle.cc_graph.proofs.read.places_in.Goals as goal

pub returns-in_ok-needs-in-Some : goal.returns-in_ok-needs-in-Some
returns-in_ok-needs-in-Some c =
    c.in_ok-needs-in-Some.ensures
    ∙ ap (λ l. all_some (map place_of (map view l))) c.as_slice.ensures.value
    ∙ sym (places_there (view c.args.value.now) c.in-Some.values.now.items c.in-Some.ensures)
