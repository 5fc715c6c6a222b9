use Rattle.std.proofs.Common.{◌≡◌, ◌∙◌, ap, sym, subst, refl, Ok, Err, Some, None, arith}
use Rattle.cc_run.specs.Plan.{IsNext}
use Rattle.cc_run.specs.Rules.{rules_of}
use Rattle.cc_run.specs.Seat.{seen_by, MissesBy}
use Rattle.cc_run.specs.Started.{IsFilled, StartsOne}
use Rattle.cc_run.specs.State.{state}
use Rattle.cc_run.specs.declared.error.Step.{Step}
use Rattle.cc_run.specs.declared.error.Step.TheVariants.{Ready, Pending}
use Rattle.cc_run.proofs.Firsts.{next_is}
use Rattle.cc_run.proofs.PrintingLemmas.{nothing_printed}
use Rattle.cc_run.proofs.WorkLemmas.{nought, works_none, steps_then, lines_then, fewer_left, filled_pending, later_misses, misses_then}
use Rattle.cc_run.proofs.spawn.fill.Goals as goal

pub starts-init : goal.starts-init
starts-init g c = record {
  agrees = c.requires.agrees;
  plan = refl;
  total = refl;
  misses = omega arith;
  works = λ turns. works_none (rules_of c.args.batch.now (g.Q.Queue.plan c.args.queue.now)) (g.J.Jobs.total c.args.seat.now) _;
  lines = nothing_printed {T = Unit {0}} (rules_of c.args.batch.now (g.Q.Queue.plan c.args.queue.now)) c.args.running.now (g.H.Host.log c.args.host.now) (Ok tt) refl;
}

pub starts-smaller : goal.starts-smaller
starts-smaller g c = fewer_left (g.Q.Queue.plan c.starts.queue) (g.Q.Queue.plan c.start_next.new.queue) (g.J.Jobs.total c.starts.seat) _ _ _ c.start_next.ensures.plan (c.in-Some.ensures c.starts.running.marks c.starts.invariant.agrees.told) (subst (λ x. StartsOne (g.Q.Queue.plan c.starts.queue) (g.J.Jobs.total c.starts.seat) c.starts.running c.start_next.new.running x) c.in-Ok-Ready.field-0-is c.in-Ok-Ready.ensures.started)

pub starts-preserved : goal.starts-preserved
starts-preserved g c = record {
  agrees = c.start_next.ensures.agrees;
  plan = c.start_next.ensures.plan ∙ c.starts.invariant.plan;
  total = (c.in-Ok-Ready.ensures.steps nought).pays.same_total ∙ c.starts.invariant.total;
  misses = later_misses (Ok c.in-Ok-Ready.field-0) (g.J.Jobs.misses c.args.seat.now) (g.J.Jobs.misses c.starts.seat) (g.J.Jobs.misses c.start_next.new.seat) c.starts.invariant.misses c.in-Ok-Ready.ensures.missed;
  works = λ turns. steps_then {T = Step} (rules_of c.args.batch.now (g.Q.Queue.plan c.args.queue.now)) (rules_of c.args.batch.now (g.Q.Queue.plan c.starts.queue)) (g.J.Jobs.total c.args.seat.now) (g.J.Jobs.total c.starts.seat) (state g.H.Host.log g.H.Host.patience (seen_by g.J.Jobs.held g.J.Jobs.total g.J.Jobs.taken g.J.Jobs.load g.J.Jobs.faults) c.args.host.now c.args.running.now c.args.seat.now turns) (state g.H.Host.log g.H.Host.patience (seen_by g.J.Jobs.held g.J.Jobs.total g.J.Jobs.taken g.J.Jobs.load g.J.Jobs.faults) c.starts.host c.starts.running c.starts.seat turns) (state g.H.Host.log g.H.Host.patience (seen_by g.J.Jobs.held g.J.Jobs.total g.J.Jobs.taken g.J.Jobs.load g.J.Jobs.faults) c.start_next.new.host c.start_next.new.running c.start_next.new.seat turns) (Ok Ready) (ap (λ p. rules_of c.args.batch.now p) c.starts.invariant.plan) c.starts.invariant.total (c.starts.invariant.works turns) (c.in-Ok-Ready.ensures.steps turns);
  lines = lines_then {T = Step} (rules_of c.args.batch.now (g.Q.Queue.plan c.args.queue.now)) (rules_of c.args.batch.now (g.Q.Queue.plan c.starts.queue)) (g.J.Jobs.total c.args.seat.now) (g.J.Jobs.total c.starts.seat) (state g.H.Host.log g.H.Host.patience (seen_by g.J.Jobs.held g.J.Jobs.total g.J.Jobs.taken g.J.Jobs.load g.J.Jobs.faults) c.args.host.now c.args.running.now c.args.seat.now nought) (state g.H.Host.log g.H.Host.patience (seen_by g.J.Jobs.held g.J.Jobs.total g.J.Jobs.taken g.J.Jobs.load g.J.Jobs.faults) c.starts.host c.starts.running c.starts.seat nought) (state g.H.Host.log g.H.Host.patience (seen_by g.J.Jobs.held g.J.Jobs.total g.J.Jobs.taken g.J.Jobs.load g.J.Jobs.faults) c.start_next.new.host c.start_next.new.running c.start_next.new.seat nought) (tt {0}) (Ok Ready) (Ok Ready) (ap (λ p. rules_of c.args.batch.now p) c.starts.invariant.plan) (c.starts.invariant.works nought) (c.in-Ok-Ready.ensures.steps nought) c.starts.invariant.lines c.in-Ok-Ready.ensures.lines;
}

pub returns-in-None-clause-agrees : goal.returns-in-None-clause-agrees
returns-in-None-clause-agrees g c = c.starts.invariant.agrees

pub returns-in-None-clause-plan : goal.returns-in-None-clause-plan
returns-in-None-clause-plan g c = c.starts.invariant.plan

pub returns-in-None-clause-steps : goal.returns-in-None-clause-steps
returns-in-None-clause-steps g c = c.starts.invariant.works

pub returns-in-None-clause-filled : goal.returns-in-None-clause-filled
returns-in-None-clause-filled g c =
    next_is (g.Q.Queue.plan c.args.queue.now) c.starts.running.marks None (subst (λ p. IsNext p c.starts.running.marks None) c.starts.invariant.plan (c.in-None.ensures c.starts.running.marks c.starts.invariant.agrees.told))

pub returns-in-None-clause-lines : goal.returns-in-None-clause-lines
returns-in-None-clause-lines g c = c.starts.invariant.lines

pub returns-in-Ok-Pending-clause-plan : goal.returns-in-Ok-Pending-clause-plan
returns-in-Ok-Pending-clause-plan g c = c.start_next.ensures.plan ∙ c.starts.invariant.plan

pub returns-in-Ok-Pending-clause-steps : goal.returns-in-Ok-Pending-clause-steps
returns-in-Ok-Pending-clause-steps g c = λ turns. steps_then {T = Step} (rules_of c.args.batch.now (g.Q.Queue.plan c.args.queue.now)) (rules_of c.args.batch.now (g.Q.Queue.plan c.starts.queue)) (g.J.Jobs.total c.args.seat.now) (g.J.Jobs.total c.starts.seat) (state g.H.Host.log g.H.Host.patience (seen_by g.J.Jobs.held g.J.Jobs.total g.J.Jobs.taken g.J.Jobs.load g.J.Jobs.faults) c.args.host.now c.args.running.now c.args.seat.now turns) (state g.H.Host.log g.H.Host.patience (seen_by g.J.Jobs.held g.J.Jobs.total g.J.Jobs.taken g.J.Jobs.load g.J.Jobs.faults) c.starts.host c.starts.running c.starts.seat turns) (state g.H.Host.log g.H.Host.patience (seen_by g.J.Jobs.held g.J.Jobs.total g.J.Jobs.taken g.J.Jobs.load g.J.Jobs.faults) c.start_next.new.host c.start_next.new.running c.start_next.new.seat turns) (Ok Pending) (ap (λ p. rules_of c.args.batch.now p) c.starts.invariant.plan) c.starts.invariant.total (c.starts.invariant.works turns) (c.in-Ok-Pending.ensures.steps turns)

pub returns-in-Ok-Pending-clause-filled : goal.returns-in-Ok-Pending-clause-filled
returns-in-Ok-Pending-clause-filled g c =
    let one = subst (λ x. StartsOne (g.Q.Queue.plan c.starts.queue) (g.J.Jobs.total c.starts.seat) c.starts.running c.start_next.new.running x) c.in-Ok-Pending.field-0-is c.in-Ok-Pending.ensures.started in
    subst (λ k. IsFilled (g.Q.Queue.plan c.args.queue.now) (g.J.Jobs.total c.args.seat.now) k Pending) (sym one.0)
    (filled_pending (g.Q.Queue.plan c.args.queue.now) (g.J.Jobs.total c.args.seat.now) (g.J.Jobs.total c.starts.seat) c.starts.running c.in-Some.place c.starts.invariant.total (next_is (g.Q.Queue.plan c.args.queue.now) c.starts.running.marks (Some c.in-Some.place) (subst (λ p. IsNext p c.starts.running.marks (Some c.in-Some.place)) c.starts.invariant.plan (c.in-Some.ensures c.starts.running.marks c.starts.invariant.agrees.told))) one.1)

pub returns-in-Ok-Pending-clause-lines : goal.returns-in-Ok-Pending-clause-lines
returns-in-Ok-Pending-clause-lines g c = lines_then {T = Step} (rules_of c.args.batch.now (g.Q.Queue.plan c.args.queue.now)) (rules_of c.args.batch.now (g.Q.Queue.plan c.starts.queue)) (g.J.Jobs.total c.args.seat.now) (g.J.Jobs.total c.starts.seat) (state g.H.Host.log g.H.Host.patience (seen_by g.J.Jobs.held g.J.Jobs.total g.J.Jobs.taken g.J.Jobs.load g.J.Jobs.faults) c.args.host.now c.args.running.now c.args.seat.now nought) (state g.H.Host.log g.H.Host.patience (seen_by g.J.Jobs.held g.J.Jobs.total g.J.Jobs.taken g.J.Jobs.load g.J.Jobs.faults) c.starts.host c.starts.running c.starts.seat nought) (state g.H.Host.log g.H.Host.patience (seen_by g.J.Jobs.held g.J.Jobs.total g.J.Jobs.taken g.J.Jobs.load g.J.Jobs.faults) c.start_next.new.host c.start_next.new.running c.start_next.new.seat nought) (tt {0}) (Ok Pending) (Ok Pending) (ap (λ p. rules_of c.args.batch.now p) c.starts.invariant.plan) (c.starts.invariant.works nought) (c.in-Ok-Pending.ensures.steps nought) c.starts.invariant.lines c.in-Ok-Pending.ensures.lines

pub returns-in-Err-clause-plan : goal.returns-in-Err-clause-plan
returns-in-Err-clause-plan g c = c.start_next.ensures.plan ∙ c.starts.invariant.plan

pub returns-in-Err-clause-steps : goal.returns-in-Err-clause-steps
returns-in-Err-clause-steps g c = λ turns. steps_then {T = Step} (rules_of c.args.batch.now (g.Q.Queue.plan c.args.queue.now)) (rules_of c.args.batch.now (g.Q.Queue.plan c.starts.queue)) (g.J.Jobs.total c.args.seat.now) (g.J.Jobs.total c.starts.seat) (state g.H.Host.log g.H.Host.patience (seen_by g.J.Jobs.held g.J.Jobs.total g.J.Jobs.taken g.J.Jobs.load g.J.Jobs.faults) c.args.host.now c.args.running.now c.args.seat.now turns) (state g.H.Host.log g.H.Host.patience (seen_by g.J.Jobs.held g.J.Jobs.total g.J.Jobs.taken g.J.Jobs.load g.J.Jobs.faults) c.starts.host c.starts.running c.starts.seat turns) (state g.H.Host.log g.H.Host.patience (seen_by g.J.Jobs.held g.J.Jobs.total g.J.Jobs.taken g.J.Jobs.load g.J.Jobs.faults) c.start_next.new.host c.start_next.new.running c.start_next.new.seat turns) (Err c.in-Err.e) (ap (λ p. rules_of c.args.batch.now p) c.starts.invariant.plan) c.starts.invariant.total (c.starts.invariant.works turns) (c.in-Err.ensures.steps turns)

pub returns-in-Err-clause-lines : goal.returns-in-Err-clause-lines
returns-in-Err-clause-lines g c = lines_then {T = Step} (rules_of c.args.batch.now (g.Q.Queue.plan c.args.queue.now)) (rules_of c.args.batch.now (g.Q.Queue.plan c.starts.queue)) (g.J.Jobs.total c.args.seat.now) (g.J.Jobs.total c.starts.seat) (state g.H.Host.log g.H.Host.patience (seen_by g.J.Jobs.held g.J.Jobs.total g.J.Jobs.taken g.J.Jobs.load g.J.Jobs.faults) c.args.host.now c.args.running.now c.args.seat.now nought) (state g.H.Host.log g.H.Host.patience (seen_by g.J.Jobs.held g.J.Jobs.total g.J.Jobs.taken g.J.Jobs.load g.J.Jobs.faults) c.starts.host c.starts.running c.starts.seat nought) (state g.H.Host.log g.H.Host.patience (seen_by g.J.Jobs.held g.J.Jobs.total g.J.Jobs.taken g.J.Jobs.load g.J.Jobs.faults) c.start_next.new.host c.start_next.new.running c.start_next.new.seat nought) (tt {0}) (Err c.in-Err.e) (Err c.in-Err.e) (ap (λ p. rules_of c.args.batch.now p) c.starts.invariant.plan) (c.starts.invariant.works nought) (c.in-Err.ensures.steps nought) c.starts.invariant.lines c.in-Err.ensures.lines

pub returns-in-None-clause-missed : goal.returns-in-None-clause-missed
returns-in-None-clause-missed g c = c.starts.invariant.misses

pub returns-in-Ok-Pending-clause-missed : goal.returns-in-Ok-Pending-clause-missed
returns-in-Ok-Pending-clause-missed g c = misses_then (Ok Pending) (g.J.Jobs.misses c.args.seat.now) (g.J.Jobs.misses c.starts.seat) (g.J.Jobs.misses c.start_next.new.seat) c.starts.invariant.misses (subst (λ x. MissesBy (Ok x) (g.J.Jobs.misses c.starts.seat) (g.J.Jobs.misses c.start_next.new.seat)) c.in-Ok-Pending.field-0-is c.in-Ok-Pending.ensures.missed)

pub returns-in-Err-clause-missed : goal.returns-in-Err-clause-missed
returns-in-Err-clause-missed g c = misses_then (Err c.in-Err.e) (g.J.Jobs.misses c.args.seat.now) (g.J.Jobs.misses c.starts.seat) (g.J.Jobs.misses c.start_next.new.seat) c.starts.invariant.misses c.in-Err.ensures.missed
