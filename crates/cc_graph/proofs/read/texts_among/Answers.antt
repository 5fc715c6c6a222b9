use Rattle.std.proofs.Common.{sym}
use Rattle.serde_json.specs.Find.{as_str}
use Rattle.serde_json.specs.View.{view}
use Rattle.cc_graph.proofs.ReadLemmas.{first_refused, all_read}
use Rattle.cc_graph.proofs.read.texts_among.Goals as goal

pub returns-in-None : goal.returns-in-None
returns-in-None c = sym (first_refused view as_str c.args.values.now c.loop-value.value-index c.value-item.result c.loop-value.words c.loop-value-test.true c.value-item.is c.loop-value.invariant (sym c.in-None.ensures)).0

pub returns : goal.returns
returns c = sym (all_read view as_str c.args.values.now c.loop-value.value-index c.loop-value.words c.loop-value-test.false c.loop-value.invariant)
