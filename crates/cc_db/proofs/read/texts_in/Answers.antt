use Rattle.std.proofs.Common.{◌∙◌, sym, ap, map}
use Rattle.serde_json.specs.Find.{as_str}
use Rattle.serde_json.specs.View.{view}
use Rattle.cc_db.specs.Read.{all_some}
use Rattle.cc_db.proofs.ReadLemmas.{texts_there}
use Rattle.cc_db.proofs.read.texts_in.Goals as goal

pub returns-in_ok-words-in-Some : goal.returns-in_ok-words-in-Some
returns-in_ok-words-in-Some c =
    c.in_ok-words-in-Some.ensures
    ∙ ap (λ l. all_some (map as_str (map view l))) c.as_slice.ensures.value
    ∙ sym (texts_there (view c.args.value.now) c.in-Some.values.now.items c.in-Some.ensures)
