use Rattle.std.proofs.Common.{map, sym, ◌∙◌}
use Rattle.std.proofs.lemmas.List.{length-map}
use Rattle.serde_json.specs.View.{view}
use Rattle.cc_fresh.proofs.ReadLemmas.{no_pair}
use Rattle.cc_fresh.proofs.read.pair_of.Goals as goal

pub returns-else-values-eq2 : goal.returns-else-values-eq2
returns-else-values-eq2 c = sym (no_pair (map view c.args.values.now) (λ two. c.if-values-eq2.false (sym (length-map c.args.values.now view) ∙ two)))
