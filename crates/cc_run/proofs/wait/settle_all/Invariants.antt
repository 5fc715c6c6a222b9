use Rattle.std.proofs.Common.{◌≡◌, take, ◌++◌}
use Rattle.std.specs.Prelude.{OnOk}
use Rattle.std.specs.List.{flat_map}
use Rattle.cc_host.specs.Event.{reported}
use Rattle.cc_run.specs.Children.{run_of}
use Rattle.cc_run.specs.Hearing.{children_from, owed_from}
use Rattle.cc_run.specs.Run.{run_from}
use Rattle.cc_run.specs.Seat.{Returned, seen_by}
use Rattle.cc_run.specs.State.{Agrees}
use Rattle.cc_run.proofs.wait.settle_all.Given as goal

abbrev pub invariant-loop-item : goal.invariant-loop-item
invariant-loop-item g l = record {
  agrees : Agrees g.J.Jobs.fits g.J.Jobs.held g.Q.Queue.stands l.batch.jobs.now l.seat l.queue l.running;
  plan : g.Q.Queue.plan l.queue ≡ g.Q.Queue.plan l.fn.queue;
  seat : Returned (seen_by g.J.Jobs.held g.J.Jobs.total g.J.Jobs.taken g.J.Jobs.load g.J.Jobs.faults l.fn.seat) (seen_by g.J.Jobs.held g.J.Jobs.total g.J.Jobs.taken g.J.Jobs.load g.J.Jobs.faults l.seat);
  run : run_of l.running ≡ run_from (g.Q.Queue.plan l.fn.queue) (run_of l.fn.running) (flat_map reported (take l.item-index l.news));
  children : OnOk l.done (l.running.children ≡ children_from l.fn.running.children (flat_map reported (take l.item-index l.news)));
  lines : OnOk l.done (l.lines.items ≡ l.fn.lines.items ++ owed_from l.batch.shows.now l.batch.warns (g.Q.Queue.plan l.fn.queue).cmds l.fn.running.children (flat_map reported (take l.item-index l.news)));
}
