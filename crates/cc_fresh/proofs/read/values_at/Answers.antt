use Rattle.std.proofs.Common.{List, map, ap, ◌∙◌, Some}
use Rattle.serde_json.specs.View.{view}
use Rattle.serde_json.specs.declared.value.Value.{Value}
use Rattle.cc_fresh.proofs.ReadLemmas.{values_there}
use Rattle.cc_fresh.proofs.read.values_at.Goals as goal

pub returns-in-Some-as_array : goal.returns-in-Some-as_array
returns-in-Some-as_array c =
    ap (λ (vs : List Value). Some (map view vs)) c.as_slice.ensures.value
    ∙ values_there (view c.args.value.now) (view c.in-Some.found.now) c.args.key.now c.in-Some-as_array.values.now.items c.in-Some.ensures c.in-Some-as_array.ensures
