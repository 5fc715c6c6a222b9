use Rattle.serde_json.specs.View.{view}
use Rattle.cc_fresh.proofs.ReadLemmas.{text_read, none_read_of, no_memory}
use Rattle.cc_fresh.proofs.read.record_in_text.Goals as goal

pub returns-in_ok-entries-in-Ok : goal.returns-in_ok-entries-in-Ok
returns-in_ok-entries-in-Ok c = text_read c.args.text.now (view c.in-Ok.value) _ c.in-Ok.ensures.ok c.in_ok-entries-in-Ok.ensures

pub returns-else-is_memory : goal.returns-else-is_memory
returns-else-is_memory c = none_read_of c.args.text.now (c.in-Err.ensures.err (no_memory c.is_memory.result c.is_memory.ensures c.if-is_memory.false))
