use Rattle.std.proofs.Common.{arith}
use Rattle.cc_plan.specs.Questions.{NameAsks}
use Rattle.cc_build.proofs.Growing.{asked_for}
use Rattle.cc_build.proofs.reruns.read_names.Goals as goal

pub returns-clause-asks : goal.returns-clause-asks
returns-clause-asks g c =
    asked_for _ _ (NameAsks c.args.reads c.args.task.now.set.now c.args.task.now.env.now) g.H.Host.log g.H.Host.patience _ _ _ _ _ _ _ _ c.probe_folder.ensures c.rerun_names.ensures.asks.asks c.rerun_names.ensures.asks.own c.rerun_names.ensures.asks.patient (grind arith) (grind arith)
