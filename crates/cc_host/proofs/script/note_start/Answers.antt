use Rattle.std.proofs.Common.{◌<◌, ◌∙◌, ap, sym, length, arith}
use Rattle.std.proofs.lemmas.Grind.{common_steps}
use Rattle.cc_host.specs.Script.{met_after}
use Rattle.cc_host.proofs.ScriptLemmas.{reported_more}
use Rattle.cc_host.proofs.script.note_start.Goals as goal

pub loop-script-preserved : goal.loop-script-preserved
loop-script-preserved c =
    let lt : c.loop-script.script-index < length c.args.scripts.now.items = grind (arith, common_steps, c.loop-script-test.true, c.deref_mut-script-items.ensures.value) in
    reported_more (met_after c.args.cmd.now) c.args.scripts.now.items c.loop-script.script-items c.loop-script.script-index c.script-item.result c.note_met.new.script lt c.loop-script.invariant c.script-item.is (c.note_met.ensures ∙ ap (met_after c.args.cmd.now) (sym c.script-item.is))
