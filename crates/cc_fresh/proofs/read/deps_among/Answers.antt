use Rattle.std.proofs.Common.{sym}
use Rattle.serde_json.specs.View.{view}
use Rattle.cc_fresh.specs.Record.{dep_of}
use Rattle.cc_fresh.proofs.ReadLemmas.{first_refused, all_read}
use Rattle.cc_fresh.proofs.read.deps_among.Goals as goal

pub returns-in-None : goal.returns-in-None
returns-in-None c = sym (first_refused view dep_of c.args.values.now c.loop-value.value-index c.value-item.result c.loop-value.deps c.loop-value-test.true c.value-item.is c.loop-value.invariant (sym c.in-None.ensures))

pub returns : goal.returns
returns c = sym (all_read view dep_of c.args.values.now c.loop-value.value-index c.loop-value.deps c.loop-value-test.false c.loop-value.invariant)
