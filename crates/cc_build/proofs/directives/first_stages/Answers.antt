use Rattle.cc_build.specs.Seen.{stages_seen}
use Rattle.cc_build.proofs.FirstLaws.{are_first}
use Rattle.cc_build.proofs.directives.first_stages.Goals as goal

pub returns : goal.returns
returns g c = are_first c.args.set.now c.args.listens c.args.lines.now c.in_ok-is_first.is_first c.in_ok-names.names c.deref-2.result.now (stages_seen c.in_ok-stages.stages.items) c.in_ok-is_first.ensures c.in_ok-names.ensures c.deref-2.ensures.value c.in_ok-stages.ensures
