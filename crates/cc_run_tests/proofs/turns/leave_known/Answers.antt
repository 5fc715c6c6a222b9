use Rattle.cc_host.proofs.ChildLogLemmas.{started_runs}
use Rattle.cc_run_tests.proofs.turns.leave_known.Goals as goal

pub abandon-requires : goal.abandon-requires
abandon-requires g c = started_runs _ _ c.in-Ok-Child.id _ _ _ _ c.start.result (cc (c.in-Ok-Child.is, c.in-Ok-Child.field-0-is)) c.start.ensures.adds
