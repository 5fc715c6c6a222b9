use Rattle.cc_command.proofs.GeneratedRunLaws.{sources_none, sources_more}
use Rattle.cc_command.proofs.large_run.add_sources.Goals as goal

pub loop-place-init : goal.loop-place-init
loop-place-init c = sources_none c.args.build.now

pub loop-place-preserved : goal.loop-place-preserved
loop-place-preserved c = sources_more c.args.build.now c.loop-place.build c.add_source.new.build c.loop-place.place c.loop-place.invariant c.in_ok-add_source.ensures
