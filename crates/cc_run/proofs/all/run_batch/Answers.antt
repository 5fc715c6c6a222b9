use Rattle.std.proofs.Common.{◌≡◌, ◌∙◌, ap, sym, subst, Err, List}
use Rattle.cc_host.specs.Call.{part}
use Rattle.cc_host.specs.Children.{InOrder, running}
use Rattle.cc_run.specs.Children.{run_of, nothing_kept}
use Rattle.cc_run.specs.Printing.{IsPrinted}
use Rattle.cc_run.specs.Rules.{rules_of}
use Rattle.cc_run.specs.Run.{ids}
use Rattle.cc_run.specs.Seat.{seen_by}
use Rattle.cc_run.specs.State.{state}
use Rattle.cc_run.specs.declared.mark.Mark.{Mark}
use Rattle.cc_run.proofs.Drops.{steps_in_order}
use Rattle.cc_run.proofs.PrintingLemmas.{printed_dropped, printed_error}
use Rattle.cc_run.proofs.WorkLemmas.{steps_extends}
use Rattle.cc_run.proofs.all.run_batch.Goals as goal

pub drop_all-requires-clause-own : goal.drop_all-requires-clause-own
drop_all-requires-clause-own g c = λ _ _.
    steps_in_order {T = Unit {0}} (rules_of c.args.batch.now (g.Q.Queue.plan c.args.queue.now)) (g.J.Jobs.total c.args.seat.now) (state g.H.Host.log g.H.Host.patience (seen_by g.J.Jobs.held g.J.Jobs.total g.J.Jobs.taken g.J.Jobs.load g.J.Jobs.faults) c.args.host.now c.new-running.result c.args.seat.now c.args.turns.now) (state g.H.Host.log g.H.Host.patience (seen_by g.J.Jobs.held g.J.Jobs.total g.J.Jobs.taken g.J.Jobs.load g.J.Jobs.faults) c.run_on-result.new.host c.run_on-result.new.running c.run_on-result.new.seat c.run_on-result.new.pace.turns) c.run_on-result.result c.run_on-result.ensures.steps
    (subst (λ k. InOrder (ids (run_of k).live) (running (g.H.Host.log c.args.host.now))) (sym c.new-running.ensures) tt)

pub returns-in-Err-clause-lines : goal.returns-in-Err-clause-lines
returns-in-Err-clause-lines g c =
    let ended = subst (λ k. IsPrinted {T = Unit {0}} (rules_of c.args.batch.now (g.Q.Queue.plan c.args.queue.now)) k (Err c.in-Err.e) (part g.H.Host.log c.args.host.now c.run_on-result.new.host)) c.new-running.ensures c.in-Err.ensures.lines in
    printed_error (Unit {0}) (List Mark) (rules_of c.args.batch.now (g.Q.Queue.plan c.args.queue.now)) nothing_kept c.in-Err.e (part g.H.Host.log c.args.host.now c.drop_all.new.host)
    (printed_dropped {T = Unit {0}} (rules_of c.args.batch.now (g.Q.Queue.plan c.args.queue.now)) nothing_kept (g.H.Host.log c.args.host.now) (g.H.Host.log c.run_on-result.new.host) (g.H.Host.log c.drop_all.new.host) (run_of c.run_on-result.new.running).live (Err c.in-Err.e) (steps_extends {T = Unit {0}} (rules_of c.args.batch.now (g.Q.Queue.plan c.args.queue.now)) (g.J.Jobs.total c.args.seat.now) (state g.H.Host.log g.H.Host.patience (seen_by g.J.Jobs.held g.J.Jobs.total g.J.Jobs.taken g.J.Jobs.load g.J.Jobs.faults) c.args.host.now c.new-running.result c.args.seat.now c.args.turns.now) (state g.H.Host.log g.H.Host.patience (seen_by g.J.Jobs.held g.J.Jobs.total g.J.Jobs.taken g.J.Jobs.load g.J.Jobs.faults) c.run_on-result.new.host c.run_on-result.new.running c.run_on-result.new.seat c.run_on-result.new.pace.turns) c.run_on-result.result c.run_on-result.ensures.steps) c.drop_all.ensures.adds ended)
