use Rattle.cc_command.proofs.KeyLaws.{set_debug, no_debug}
use Rattle.cc_command.proofs.reading.set_debug.Goals as goal

pub returns-in-Some : goal.returns-in-Some
returns-in-Some g c = set_debug c.args.build.now c.debug.new.self c.args.value.now c.in-Some.on c.debug.result c.set.result c.in-Some.ensures.0 c.in-Some.ensures.1 c.set.ensures c.debug.ensures.ok

pub returns-in-None : goal.returns-in-None
returns-in-None g c = no_debug c.args.build.now c.args.value.now c.in-None.ensures
