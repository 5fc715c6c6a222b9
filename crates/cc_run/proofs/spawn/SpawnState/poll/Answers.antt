use Rattle.cc_run.proofs.ListedLaws.{listed_by}
use Rattle.cc_run.proofs.spawn.SpawnState.poll.Goals as goal

pub returns-clause-one_run : goal.returns-clause-one_run
returns-clause-one_run g c = record { fitting = c.fill.ensures.agrees.fitting; tokens = c.fill.ensures.agrees.tokens; listed = listed_by _ _ c.fill.new.running.marks c.fill.ensures.agrees.told }
