use Rattle.cc_build.proofs.RunPlanLaws.{chosen_next, chosen_all}
use Rattle.cc_build.proofs.run_plan.some_of.Goals as goal

pub loop-place-preserved : goal.loop-place-preserved
loop-place-preserved c =
    chosen_next c.args.choices.now c.args.cmds.now c.loop-place.place c.index-cmds-place.result c.is_chosen.result c.loop-place.chosen.items c.push_chosen.new.chosen.items _ c.loop-place-test.true c.index-cmds-place.is c.is_chosen.ensures c.in_ok-push_chosen.ensures c.loop-place.invariant

pub returns : goal.returns
returns c = chosen_all c.args.choices.now c.args.cmds.now c.loop-place.place c.loop-place.chosen.items _ c.loop-place-test.false c.loop-place.invariant
