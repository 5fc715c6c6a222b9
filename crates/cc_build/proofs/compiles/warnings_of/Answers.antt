use Rattle.cc_plan.specs.Plan.{warning_steps}
use Rattle.cc_build.proofs.Doing.{notes_none, notes_more}
use Rattle.cc_build.proofs.compiles.warnings_of.Goals as goal

pub loop-text-init : goal.loop-text-init
loop-text-init c = notes_none (warning_steps c.args.prints c.args.listens) c.as_slice-text-items.result.now c.new-stages.result.items c.new-stages.ensures.items

pub loop-text-preserved : goal.loop-text-preserved
loop-text-preserved c = notes_more (warning_steps c.args.prints c.args.listens) c.loop-text.stages.items c.push_warning.new.stages.items c.as_slice-text-items.result.now c.loop-text.text-index c.text-item.result c.as_str.result.now c.loop-text-test.true c.text-item.is c.as_str.ensures c.loop-text.invariant c.in_ok-push_warning.ensures
