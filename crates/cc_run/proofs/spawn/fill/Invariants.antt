use Rattle.std.proofs.Common.{◌≡◌, ◌≤◌, length, Ok, Result}
use Rattle.cc_host.specs.Call.{part}
use Rattle.cc_run.specs.Plan.{unbegun}
use Rattle.cc_run.specs.Printing.{IsPrinted}
use Rattle.cc_run.specs.Rules.{rules_of}
use Rattle.cc_run.specs.Seat.{seen_by}
use Rattle.cc_run.specs.State.{Agrees, Works, state}
use Rattle.cc_run.specs.declared.planned.Turns.{Turns as TurnsSeen}
use Rattle.cc_run.proofs.spawn.fill.Given as goal

abbrev pub invariant-starts : goal.invariant-starts
invariant-starts g l = record {
  agrees : Agrees g.J.Jobs.fits g.J.Jobs.held g.Q.Queue.stands l.batch.jobs.now l.seat l.queue l.running;
  plan : g.Q.Queue.plan l.queue ≡ g.Q.Queue.plan l.fn.queue;
  total : g.J.Jobs.total l.seat ≡ g.J.Jobs.total l.fn.seat;
  misses : g.J.Jobs.misses l.fn.seat ≤ g.J.Jobs.misses l.seat;
  works : (turns : TurnsSeen) → Works (rules_of l.batch (g.Q.Queue.plan l.fn.queue)) (g.J.Jobs.total l.fn.seat) (state g.H.Host.log g.H.Host.patience (seen_by g.J.Jobs.held g.J.Jobs.total g.J.Jobs.taken g.J.Jobs.load g.J.Jobs.faults) l.fn.host l.fn.running l.fn.seat turns) (state g.H.Host.log g.H.Host.patience (seen_by g.J.Jobs.held g.J.Jobs.total g.J.Jobs.taken g.J.Jobs.load g.J.Jobs.faults) l.host l.running l.seat turns);
  lines : IsPrinted {T = Unit {0}} (rules_of l.batch (g.Q.Queue.plan l.fn.queue)) l.fn.running (Ok tt) (part g.H.Host.log l.fn.host l.host);
}

abbrev pub decreases-starts : goal.decreases-starts
decreases-starts g l = unbegun (length (g.Q.Queue.plan l.queue).cmds) l.running.marks
