use Rattle.std.proofs.Common.{sym, ◌∙◌}
use Rattle.serde_json.specs.View.{view}
use Rattle.cc_fresh.specs.Record.{entry_of}
use Rattle.cc_fresh.proofs.ReadLemmas.{first_refused, all_read}
use Rattle.cc_fresh.proofs.read.entries_among.Goals as goal

pub returns-in-None : goal.returns-in-None
returns-in-None c = sym (first_refused view entry_of c.args.values.now c.loop-value.value-index c.value-item.result c.loop-value.entries.items c.loop-value-test.true c.value-item.is c.loop-value.invariant (sym c.in_ok-entry.ensures ∙ c.in-None.is))

pub returns : goal.returns
returns c = sym (all_read view entry_of c.args.values.now c.loop-value.value-index c.loop-value.entries.items c.loop-value-test.false c.loop-value.invariant)
