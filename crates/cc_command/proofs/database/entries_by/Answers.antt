use Rattle.std.proofs.Common.{◌++◌, map, Option, ◌∙◌, ap}
use Rattle.cc_host.specs.Command.{CommandSeen}
use Rattle.cc_command.specs.Database.{optional, entry_of}
use Rattle.cc_command.proofs.EntryLaws.{entries_next}
use Rattle.cc_command.proofs.database.entries_by.Goals as goal

pub loop-place-preserved : goal.loop-place-preserved
loop-place-preserved c =
    entries_next c.args.here.now c.args.objects.now c.args.cmds.now c.loop-place.place c.index-objects-place.result c.loop-place.entries.items c.push_entry.new.entries.items _ c.loop-place-test.true c.index-objects-place.is
    (c.in_ok-push_entry.ensures ∙ ap (λ (o : Option CommandSeen). c.loop-place.entries.items ++ map (entry_of c.args.here.now c.index-objects-place.result) (optional o)) c.command_at.ensures) c.loop-place.invariant
