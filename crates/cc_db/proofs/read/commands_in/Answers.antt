use Rattle.std.proofs.Common.{◌∙◌, sym, map, length}
use Rattle.serde_json.specs.View.{view}
use Rattle.cc_db.specs.Read.{command_of}
use Rattle.cc_db.proofs.ReadLemmas.{first_refused, all_read, entries_read, entries_refused}
use Rattle.cc_db.proofs.read.commands_in.Goals as goal

pub returns-in-None-clause-err : goal.returns-in-None-clause-err
returns-in-None-clause-err c _ =
    entries_refused (map view c.args.values.now) (length c.loop-value.commands.items) c.len.result
    (first_refused view command_of c.args.values.now c.loop-value.value-index c.value-item.result c.loop-value.commands.items c.loop-value-test.true c.value-item.is c.loop-value.invariant (sym c.in_ok-command.ensures ∙ c.in-None.is))
    (c.len.ensures ∙ c.loop-value.commands.ok.0)

pub returns-clause-ok : goal.returns-clause-ok
returns-clause-ok c =
    entries_read (map view c.args.values.now) c.loop-value.commands.items
    (all_read view command_of c.args.values.now c.loop-value.value-index c.loop-value.commands.items c.loop-value-test.false c.loop-value.invariant)
