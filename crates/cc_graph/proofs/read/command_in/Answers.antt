use Rattle.std.proofs.Common.{◌∙◌, sym, ap, map}
use Rattle.std.specs.Prelude.{option_and_then}
use Rattle.serde_json.specs.Find.{as_array}
use Rattle.serde_json.specs.View.{view}
use Rattle.cc_graph.specs.Read.{values, command_of}
use Rattle.cc_graph.proofs.ReadLemmas.{command_there}
use Rattle.cc_graph.proofs.read.command_in.Goals as goal

pub returns-in_ok-cmd-in-Some-as_array : goal.returns-in_ok-cmd-in-Some-as_array
returns-in_ok-cmd-in-Some-as_array c =
    c.in_ok-cmd-in-Some-as_array.ensures
    ∙ ap (λ l. command_of c.args.vars.now (map view l)) c.as_slice.ensures.value
    ∙ sym (command_there c.args.vars.now (view c.in-Some.found.now) c.in-Some-as_array.values.now.items c.in-Some-as_array.ensures)
    ∙ ap (λ o. option_and_then (λ ds. command_of c.args.vars.now (values ds)) (option_and_then as_array o)) c.in-Some.ensures
