use Rattle.std.proofs.Common.{ap, sym, ◌∙◌}
use Rattle.serde_json.specs.View.{view}
use Rattle.cc_fresh.specs.Record.{record_data}
use Rattle.cc_fresh.proofs.RecordLaws.{written, written_back}
use Rattle.cc_fresh.proofs.write.write_record.Goals as goal

pub returns-clause-text : goal.returns-clause-text
returns-clause-text c =
    let same = c.in_ok-value.ensures ∙ ap record_data c.as_slice.ensures in
    c.owning.ensures ∙ written c.args.kept.now (view c.in_ok-value.value) c.in_ok-text.text.items same c.in_ok-text.ensures.text

pub returns-clause-reads_back : goal.returns-clause-reads_back
returns-clause-reads_back c =
    let same = c.in_ok-value.ensures ∙ ap record_data c.as_slice.ensures in
    let text = written c.args.kept.now (view c.in_ok-value.value) c.in_ok-text.text.items same c.in_ok-text.ensures.text in
    rw c.owning.ensures (written_back c.args.kept.now c.in_ok-text.text.items text c.in_ok-text.ensures.utf8)
