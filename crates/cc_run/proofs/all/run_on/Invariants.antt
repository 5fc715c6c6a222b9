use Rattle.std.proofs.Common.{◌≡◌, ◌+◌, ◌<◌, ◌^◌, Ok}
use Rattle.cc_host.specs.Call.{part}
use Rattle.cc_run.specs.Printing.{IsPrinted}
use Rattle.cc_run.specs.Rules.{rules_of}
use Rattle.cc_run.specs.Seat.{seen_by}
use Rattle.cc_run.specs.State.{Agrees, Works, state}
use Rattle.cc_run.proofs.all.run_on.Given as goal

abbrev pub invariant-passes : goal.invariant-passes
invariant-passes g l = record {
  agrees : Agrees g.J.Jobs.fits g.J.Jobs.held g.Q.Queue.stands l.batch.jobs.now l.seat l.queue l.running;
  few : l.pace.turns.left + l.pace.turns.used < 2 ^ 64;
  plan : g.Q.Queue.plan l.queue ≡ g.Q.Queue.plan l.fn.queue;
  total : g.J.Jobs.total l.seat ≡ g.J.Jobs.total l.fn.seat;
  works : Works (rules_of l.batch (g.Q.Queue.plan l.fn.queue)) (g.J.Jobs.total l.fn.seat) (state g.H.Host.log g.H.Host.patience (seen_by g.J.Jobs.held g.J.Jobs.total g.J.Jobs.taken g.J.Jobs.load g.J.Jobs.faults) l.fn.host l.fn.running l.fn.seat l.fn.pace.turns) (state g.H.Host.log g.H.Host.patience (seen_by g.J.Jobs.held g.J.Jobs.total g.J.Jobs.taken g.J.Jobs.load g.J.Jobs.faults) l.host l.running l.seat l.pace.turns);
  lines : IsPrinted {T = Unit {0}} (rules_of l.batch (g.Q.Queue.plan l.fn.queue)) l.fn.running (Ok tt) (part g.H.Host.log l.fn.host l.host);
}

abbrev pub decreases-passes : goal.decreases-passes
decreases-passes g l = l.pace.turns.left
