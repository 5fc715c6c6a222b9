use Rattle.std.proofs.Common.{sym, ◌∙◌}
use Rattle.cc_fleet.proofs.EndLemmas.{failed_by_memory}
use Rattle.cc_fleet.proofs.segments.end_failed.Goals as goal

pub returns-in-NoMemory : goal.returns-in-NoMemory
returns-in-NoMemory c = failed_by_memory c.args.commands.now c.args.failure.0 c.args.failure.1 c.of_run-error.result c.of_run-error.ensures (sym c.kind.ensures ∙ c.in-NoMemory.is)
