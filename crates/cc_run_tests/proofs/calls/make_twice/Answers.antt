use Rattle.cc_host.proofs.JournalLemmas.{still_open}
use Rattle.cc_run_tests.proofs.calls.make_twice.Goals as goal

pub drop_probe-requires : goal.drop_probe-requires
drop_probe-requires g c = still_open _ _ _ _ _ _ _ c.create_probe.result c.create_probe-again.result (cc) c.log-tidy.ensures.tidy c.create_probe.ensures.adds c.create_probe-again.ensures.adds
