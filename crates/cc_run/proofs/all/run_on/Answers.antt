use Rattle.std.proofs.Common.{◌≡◌, ◌∙◌, ap, sym, subst, refl, Ok, Err, arith}
use Rattle.cc_run.specs.Rules.{rules_of}
use Rattle.cc_run.specs.Seat.{seen_by}
use Rattle.cc_run.specs.Started.{IsFilled}
use Rattle.cc_run.specs.State.{state}
use Rattle.cc_run.specs.declared.error.Step.{Step}
use Rattle.cc_run.proofs.PrintingLemmas.{nothing_printed}
use Rattle.cc_run.proofs.WorkLemmas.{works_none, steps_then, lines_then, busy_filled, open_filled, turns_few}
use Rattle.cc_run.proofs.all.run_on.Goals as goal

pub passes-init : goal.passes-init
passes-init g c = record {
  agrees = c.requires.agrees;
  few = c.requires.few;
  plan = refl;
  total = refl;
  works = works_none (rules_of c.args.batch.now (g.Q.Queue.plan c.args.queue.now)) (g.J.Jobs.total c.args.seat.now) _;
  lines = nothing_printed {T = Unit {0}} (rules_of c.args.batch.now (g.Q.Queue.plan c.args.queue.now)) c.args.running.now (g.H.Host.log c.args.host.now) (Ok tt) refl;
}

pub returns-in-Err-clause-steps : goal.returns-in-Err-clause-steps
returns-in-Err-clause-steps g c = (steps_then {T = Step} (rules_of c.args.batch.now (g.Q.Queue.plan c.args.queue.now)) (rules_of c.args.batch.now (g.Q.Queue.plan c.passes.queue)) (g.J.Jobs.total c.args.seat.now) (g.J.Jobs.total c.passes.seat) (state g.H.Host.log g.H.Host.patience (seen_by g.J.Jobs.held g.J.Jobs.total g.J.Jobs.taken g.J.Jobs.load g.J.Jobs.faults) c.args.host.now c.args.running.now c.args.seat.now c.args.pace.now.turns) (state g.H.Host.log g.H.Host.patience (seen_by g.J.Jobs.held g.J.Jobs.total g.J.Jobs.taken g.J.Jobs.load g.J.Jobs.faults) c.passes.host c.passes.running c.passes.seat c.passes.pace.turns) (state g.H.Host.log g.H.Host.patience (seen_by g.J.Jobs.held g.J.Jobs.total g.J.Jobs.taken g.J.Jobs.load g.J.Jobs.faults) c.fill.new.host c.fill.new.running c.fill.new.seat c.passes.pace.turns) (Err c.in-Err.e) (ap (λ p. rules_of c.args.batch.now p) c.passes.invariant.plan) c.passes.invariant.total c.passes.invariant.works (c.in-Err.ensures.steps c.passes.pace.turns))

pub returns-in-Err-clause-lines : goal.returns-in-Err-clause-lines
returns-in-Err-clause-lines g c = (lines_then {T = Step} (rules_of c.args.batch.now (g.Q.Queue.plan c.args.queue.now)) (rules_of c.args.batch.now (g.Q.Queue.plan c.passes.queue)) (g.J.Jobs.total c.args.seat.now) (g.J.Jobs.total c.passes.seat) (state g.H.Host.log g.H.Host.patience (seen_by g.J.Jobs.held g.J.Jobs.total g.J.Jobs.taken g.J.Jobs.load g.J.Jobs.faults) c.args.host.now c.args.running.now c.args.seat.now c.args.pace.now.turns) (state g.H.Host.log g.H.Host.patience (seen_by g.J.Jobs.held g.J.Jobs.total g.J.Jobs.taken g.J.Jobs.load g.J.Jobs.faults) c.passes.host c.passes.running c.passes.seat c.passes.pace.turns) (state g.H.Host.log g.H.Host.patience (seen_by g.J.Jobs.held g.J.Jobs.total g.J.Jobs.taken g.J.Jobs.load g.J.Jobs.faults) c.fill.new.host c.fill.new.running c.fill.new.seat c.passes.pace.turns) (tt {0}) (Err c.in-Err.e) (Err c.in-Err.e) (ap (λ p. rules_of c.args.batch.now p) c.passes.invariant.plan) c.passes.invariant.works (c.in-Err.ensures.steps c.passes.pace.turns) c.passes.invariant.lines c.in-Err.ensures.lines)

pub passes-preserved : goal.passes-preserved
passes-preserved g c = record {
  agrees = c.turn.ensures.agrees;
  few = turns_few (rules_of c.args.batch.now (g.Q.Queue.plan c.fill.new.queue)) (g.J.Jobs.total c.fill.new.seat) (state g.H.Host.log g.H.Host.patience (seen_by g.J.Jobs.held g.J.Jobs.total g.J.Jobs.taken g.J.Jobs.load g.J.Jobs.faults) c.fill.new.host c.fill.new.running c.fill.new.seat c.passes.pace.turns) (state g.H.Host.log g.H.Host.patience (seen_by g.J.Jobs.held g.J.Jobs.total g.J.Jobs.taken g.J.Jobs.load g.J.Jobs.faults) c.turn.new.host c.turn.new.running c.turn.new.seat c.turn.new.pace.turns) (c.in-Ok-turn.ensures.steps (g.J.Jobs.total c.fill.new.seat) (busy_filled (g.Q.Queue.plan c.fill.new.queue) (g.J.Jobs.total c.fill.new.seat) c.fill.new.running c.in-Ok.step (subst (λ p. IsFilled p (g.J.Jobs.total c.fill.new.seat) c.fill.new.running c.in-Ok.step) (sym c.fill.ensures.plan) (subst (λ t. IsFilled (g.Q.Queue.plan c.passes.queue) t c.fill.new.running c.in-Ok.step) (sym (c.in-Ok.ensures.steps c.passes.pace.turns).pays.same_total) c.in-Ok.ensures.filled)) (c.is_over.ensures.no (cc)))) c.passes.invariant.few;
  plan = c.turn.ensures.plan ∙ c.fill.ensures.plan ∙ c.passes.invariant.plan;
  total = (c.in-Ok-turn.ensures.steps (g.J.Jobs.total c.fill.new.seat) (busy_filled (g.Q.Queue.plan c.fill.new.queue) (g.J.Jobs.total c.fill.new.seat) c.fill.new.running c.in-Ok.step (subst (λ p. IsFilled p (g.J.Jobs.total c.fill.new.seat) c.fill.new.running c.in-Ok.step) (sym c.fill.ensures.plan) (subst (λ t. IsFilled (g.Q.Queue.plan c.passes.queue) t c.fill.new.running c.in-Ok.step) (sym (c.in-Ok.ensures.steps c.passes.pace.turns).pays.same_total) c.in-Ok.ensures.filled)) (c.is_over.ensures.no (cc)))).pays.same_total ∙ ((c.in-Ok.ensures.steps c.passes.pace.turns).pays.same_total ∙ c.passes.invariant.total);
  works = steps_then {T = Unit {0}} (rules_of c.args.batch.now (g.Q.Queue.plan c.args.queue.now)) (rules_of c.args.batch.now (g.Q.Queue.plan c.fill.new.queue)) (g.J.Jobs.total c.args.seat.now) (g.J.Jobs.total c.fill.new.seat) (state g.H.Host.log g.H.Host.patience (seen_by g.J.Jobs.held g.J.Jobs.total g.J.Jobs.taken g.J.Jobs.load g.J.Jobs.faults) c.args.host.now c.args.running.now c.args.seat.now c.args.pace.now.turns) (state g.H.Host.log g.H.Host.patience (seen_by g.J.Jobs.held g.J.Jobs.total g.J.Jobs.taken g.J.Jobs.load g.J.Jobs.faults) c.fill.new.host c.fill.new.running c.fill.new.seat c.passes.pace.turns) (state g.H.Host.log g.H.Host.patience (seen_by g.J.Jobs.held g.J.Jobs.total g.J.Jobs.taken g.J.Jobs.load g.J.Jobs.faults) c.turn.new.host c.turn.new.running c.turn.new.seat c.turn.new.pace.turns) (Ok tt) (ap (λ p. rules_of c.args.batch.now p) (c.fill.ensures.plan ∙ c.passes.invariant.plan)) ((c.in-Ok.ensures.steps c.passes.pace.turns).pays.same_total ∙ c.passes.invariant.total) (steps_then {T = Step} (rules_of c.args.batch.now (g.Q.Queue.plan c.args.queue.now)) (rules_of c.args.batch.now (g.Q.Queue.plan c.passes.queue)) (g.J.Jobs.total c.args.seat.now) (g.J.Jobs.total c.passes.seat) (state g.H.Host.log g.H.Host.patience (seen_by g.J.Jobs.held g.J.Jobs.total g.J.Jobs.taken g.J.Jobs.load g.J.Jobs.faults) c.args.host.now c.args.running.now c.args.seat.now c.args.pace.now.turns) (state g.H.Host.log g.H.Host.patience (seen_by g.J.Jobs.held g.J.Jobs.total g.J.Jobs.taken g.J.Jobs.load g.J.Jobs.faults) c.passes.host c.passes.running c.passes.seat c.passes.pace.turns) (state g.H.Host.log g.H.Host.patience (seen_by g.J.Jobs.held g.J.Jobs.total g.J.Jobs.taken g.J.Jobs.load g.J.Jobs.faults) c.fill.new.host c.fill.new.running c.fill.new.seat c.passes.pace.turns) (Ok c.in-Ok.step) (ap (λ p. rules_of c.args.batch.now p) c.passes.invariant.plan) c.passes.invariant.total c.passes.invariant.works (c.in-Ok.ensures.steps c.passes.pace.turns)) (c.in-Ok-turn.ensures.steps (g.J.Jobs.total c.fill.new.seat) (busy_filled (g.Q.Queue.plan c.fill.new.queue) (g.J.Jobs.total c.fill.new.seat) c.fill.new.running c.in-Ok.step (subst (λ p. IsFilled p (g.J.Jobs.total c.fill.new.seat) c.fill.new.running c.in-Ok.step) (sym c.fill.ensures.plan) (subst (λ t. IsFilled (g.Q.Queue.plan c.passes.queue) t c.fill.new.running c.in-Ok.step) (sym (c.in-Ok.ensures.steps c.passes.pace.turns).pays.same_total) c.in-Ok.ensures.filled)) (c.is_over.ensures.no (cc))));
  lines = lines_then {T = Unit {0}} (rules_of c.args.batch.now (g.Q.Queue.plan c.args.queue.now)) (rules_of c.args.batch.now (g.Q.Queue.plan c.fill.new.queue)) (g.J.Jobs.total c.args.seat.now) (g.J.Jobs.total c.fill.new.seat) (state g.H.Host.log g.H.Host.patience (seen_by g.J.Jobs.held g.J.Jobs.total g.J.Jobs.taken g.J.Jobs.load g.J.Jobs.faults) c.args.host.now c.args.running.now c.args.seat.now c.args.pace.now.turns) (state g.H.Host.log g.H.Host.patience (seen_by g.J.Jobs.held g.J.Jobs.total g.J.Jobs.taken g.J.Jobs.load g.J.Jobs.faults) c.fill.new.host c.fill.new.running c.fill.new.seat c.passes.pace.turns) (state g.H.Host.log g.H.Host.patience (seen_by g.J.Jobs.held g.J.Jobs.total g.J.Jobs.taken g.J.Jobs.load g.J.Jobs.faults) c.turn.new.host c.turn.new.running c.turn.new.seat c.turn.new.pace.turns) (tt {0}) (Ok tt) (Ok tt) (ap (λ p. rules_of c.args.batch.now p) (c.fill.ensures.plan ∙ c.passes.invariant.plan)) (steps_then {T = Step} (rules_of c.args.batch.now (g.Q.Queue.plan c.args.queue.now)) (rules_of c.args.batch.now (g.Q.Queue.plan c.passes.queue)) (g.J.Jobs.total c.args.seat.now) (g.J.Jobs.total c.passes.seat) (state g.H.Host.log g.H.Host.patience (seen_by g.J.Jobs.held g.J.Jobs.total g.J.Jobs.taken g.J.Jobs.load g.J.Jobs.faults) c.args.host.now c.args.running.now c.args.seat.now c.args.pace.now.turns) (state g.H.Host.log g.H.Host.patience (seen_by g.J.Jobs.held g.J.Jobs.total g.J.Jobs.taken g.J.Jobs.load g.J.Jobs.faults) c.passes.host c.passes.running c.passes.seat c.passes.pace.turns) (state g.H.Host.log g.H.Host.patience (seen_by g.J.Jobs.held g.J.Jobs.total g.J.Jobs.taken g.J.Jobs.load g.J.Jobs.faults) c.fill.new.host c.fill.new.running c.fill.new.seat c.passes.pace.turns) (Ok c.in-Ok.step) (ap (λ p. rules_of c.args.batch.now p) c.passes.invariant.plan) c.passes.invariant.total c.passes.invariant.works (c.in-Ok.ensures.steps c.passes.pace.turns)) (c.in-Ok-turn.ensures.steps (g.J.Jobs.total c.fill.new.seat) (busy_filled (g.Q.Queue.plan c.fill.new.queue) (g.J.Jobs.total c.fill.new.seat) c.fill.new.running c.in-Ok.step (subst (λ p. IsFilled p (g.J.Jobs.total c.fill.new.seat) c.fill.new.running c.in-Ok.step) (sym c.fill.ensures.plan) (subst (λ t. IsFilled (g.Q.Queue.plan c.passes.queue) t c.fill.new.running c.in-Ok.step) (sym (c.in-Ok.ensures.steps c.passes.pace.turns).pays.same_total) c.in-Ok.ensures.filled)) (c.is_over.ensures.no (cc)))) (lines_then {T = Step} (rules_of c.args.batch.now (g.Q.Queue.plan c.args.queue.now)) (rules_of c.args.batch.now (g.Q.Queue.plan c.passes.queue)) (g.J.Jobs.total c.args.seat.now) (g.J.Jobs.total c.passes.seat) (state g.H.Host.log g.H.Host.patience (seen_by g.J.Jobs.held g.J.Jobs.total g.J.Jobs.taken g.J.Jobs.load g.J.Jobs.faults) c.args.host.now c.args.running.now c.args.seat.now c.args.pace.now.turns) (state g.H.Host.log g.H.Host.patience (seen_by g.J.Jobs.held g.J.Jobs.total g.J.Jobs.taken g.J.Jobs.load g.J.Jobs.faults) c.passes.host c.passes.running c.passes.seat c.passes.pace.turns) (state g.H.Host.log g.H.Host.patience (seen_by g.J.Jobs.held g.J.Jobs.total g.J.Jobs.taken g.J.Jobs.load g.J.Jobs.faults) c.fill.new.host c.fill.new.running c.fill.new.seat c.passes.pace.turns) (tt {0}) (Ok c.in-Ok.step) (Ok c.in-Ok.step) (ap (λ p. rules_of c.args.batch.now p) c.passes.invariant.plan) c.passes.invariant.works (c.in-Ok.ensures.steps c.passes.pace.turns) c.passes.invariant.lines c.in-Ok.ensures.lines) c.in-Ok-turn.ensures.lines;
}

pub returns-in-Err-turn-clause-steps : goal.returns-in-Err-turn-clause-steps
returns-in-Err-turn-clause-steps g c = steps_then {T = Unit {0}} (rules_of c.args.batch.now (g.Q.Queue.plan c.args.queue.now)) (rules_of c.args.batch.now (g.Q.Queue.plan c.fill.new.queue)) (g.J.Jobs.total c.args.seat.now) (g.J.Jobs.total c.fill.new.seat) (state g.H.Host.log g.H.Host.patience (seen_by g.J.Jobs.held g.J.Jobs.total g.J.Jobs.taken g.J.Jobs.load g.J.Jobs.faults) c.args.host.now c.args.running.now c.args.seat.now c.args.pace.now.turns) (state g.H.Host.log g.H.Host.patience (seen_by g.J.Jobs.held g.J.Jobs.total g.J.Jobs.taken g.J.Jobs.load g.J.Jobs.faults) c.fill.new.host c.fill.new.running c.fill.new.seat c.passes.pace.turns) (state g.H.Host.log g.H.Host.patience (seen_by g.J.Jobs.held g.J.Jobs.total g.J.Jobs.taken g.J.Jobs.load g.J.Jobs.faults) c.turn.new.host c.turn.new.running c.turn.new.seat c.turn.new.pace.turns) (Err c.in-Err-turn.e) (ap (λ p. rules_of c.args.batch.now p) (c.fill.ensures.plan ∙ c.passes.invariant.plan)) ((c.in-Ok.ensures.steps c.passes.pace.turns).pays.same_total ∙ c.passes.invariant.total) (steps_then {T = Step} (rules_of c.args.batch.now (g.Q.Queue.plan c.args.queue.now)) (rules_of c.args.batch.now (g.Q.Queue.plan c.passes.queue)) (g.J.Jobs.total c.args.seat.now) (g.J.Jobs.total c.passes.seat) (state g.H.Host.log g.H.Host.patience (seen_by g.J.Jobs.held g.J.Jobs.total g.J.Jobs.taken g.J.Jobs.load g.J.Jobs.faults) c.args.host.now c.args.running.now c.args.seat.now c.args.pace.now.turns) (state g.H.Host.log g.H.Host.patience (seen_by g.J.Jobs.held g.J.Jobs.total g.J.Jobs.taken g.J.Jobs.load g.J.Jobs.faults) c.passes.host c.passes.running c.passes.seat c.passes.pace.turns) (state g.H.Host.log g.H.Host.patience (seen_by g.J.Jobs.held g.J.Jobs.total g.J.Jobs.taken g.J.Jobs.load g.J.Jobs.faults) c.fill.new.host c.fill.new.running c.fill.new.seat c.passes.pace.turns) (Ok c.in-Ok.step) (ap (λ p. rules_of c.args.batch.now p) c.passes.invariant.plan) c.passes.invariant.total c.passes.invariant.works (c.in-Ok.ensures.steps c.passes.pace.turns)) (c.in-Err-turn.ensures.steps (g.J.Jobs.total c.fill.new.seat) (busy_filled (g.Q.Queue.plan c.fill.new.queue) (g.J.Jobs.total c.fill.new.seat) c.fill.new.running c.in-Ok.step (subst (λ p. IsFilled p (g.J.Jobs.total c.fill.new.seat) c.fill.new.running c.in-Ok.step) (sym c.fill.ensures.plan) (subst (λ t. IsFilled (g.Q.Queue.plan c.passes.queue) t c.fill.new.running c.in-Ok.step) (sym (c.in-Ok.ensures.steps c.passes.pace.turns).pays.same_total) c.in-Ok.ensures.filled)) (c.is_over.ensures.no (cc))))

pub returns-in-Err-turn-clause-lines : goal.returns-in-Err-turn-clause-lines
returns-in-Err-turn-clause-lines g c = lines_then {T = Unit {0}} (rules_of c.args.batch.now (g.Q.Queue.plan c.args.queue.now)) (rules_of c.args.batch.now (g.Q.Queue.plan c.fill.new.queue)) (g.J.Jobs.total c.args.seat.now) (g.J.Jobs.total c.fill.new.seat) (state g.H.Host.log g.H.Host.patience (seen_by g.J.Jobs.held g.J.Jobs.total g.J.Jobs.taken g.J.Jobs.load g.J.Jobs.faults) c.args.host.now c.args.running.now c.args.seat.now c.args.pace.now.turns) (state g.H.Host.log g.H.Host.patience (seen_by g.J.Jobs.held g.J.Jobs.total g.J.Jobs.taken g.J.Jobs.load g.J.Jobs.faults) c.fill.new.host c.fill.new.running c.fill.new.seat c.passes.pace.turns) (state g.H.Host.log g.H.Host.patience (seen_by g.J.Jobs.held g.J.Jobs.total g.J.Jobs.taken g.J.Jobs.load g.J.Jobs.faults) c.turn.new.host c.turn.new.running c.turn.new.seat c.turn.new.pace.turns) (tt {0}) (Err c.in-Err-turn.e) (Err c.in-Err-turn.e) (ap (λ p. rules_of c.args.batch.now p) (c.fill.ensures.plan ∙ c.passes.invariant.plan)) (steps_then {T = Step} (rules_of c.args.batch.now (g.Q.Queue.plan c.args.queue.now)) (rules_of c.args.batch.now (g.Q.Queue.plan c.passes.queue)) (g.J.Jobs.total c.args.seat.now) (g.J.Jobs.total c.passes.seat) (state g.H.Host.log g.H.Host.patience (seen_by g.J.Jobs.held g.J.Jobs.total g.J.Jobs.taken g.J.Jobs.load g.J.Jobs.faults) c.args.host.now c.args.running.now c.args.seat.now c.args.pace.now.turns) (state g.H.Host.log g.H.Host.patience (seen_by g.J.Jobs.held g.J.Jobs.total g.J.Jobs.taken g.J.Jobs.load g.J.Jobs.faults) c.passes.host c.passes.running c.passes.seat c.passes.pace.turns) (state g.H.Host.log g.H.Host.patience (seen_by g.J.Jobs.held g.J.Jobs.total g.J.Jobs.taken g.J.Jobs.load g.J.Jobs.faults) c.fill.new.host c.fill.new.running c.fill.new.seat c.passes.pace.turns) (Ok c.in-Ok.step) (ap (λ p. rules_of c.args.batch.now p) c.passes.invariant.plan) c.passes.invariant.total c.passes.invariant.works (c.in-Ok.ensures.steps c.passes.pace.turns)) (c.in-Err-turn.ensures.steps (g.J.Jobs.total c.fill.new.seat) (busy_filled (g.Q.Queue.plan c.fill.new.queue) (g.J.Jobs.total c.fill.new.seat) c.fill.new.running c.in-Ok.step (subst (λ p. IsFilled p (g.J.Jobs.total c.fill.new.seat) c.fill.new.running c.in-Ok.step) (sym c.fill.ensures.plan) (subst (λ t. IsFilled (g.Q.Queue.plan c.passes.queue) t c.fill.new.running c.in-Ok.step) (sym (c.in-Ok.ensures.steps c.passes.pace.turns).pays.same_total) c.in-Ok.ensures.filled)) (c.is_over.ensures.no (cc)))) (lines_then {T = Step} (rules_of c.args.batch.now (g.Q.Queue.plan c.args.queue.now)) (rules_of c.args.batch.now (g.Q.Queue.plan c.passes.queue)) (g.J.Jobs.total c.args.seat.now) (g.J.Jobs.total c.passes.seat) (state g.H.Host.log g.H.Host.patience (seen_by g.J.Jobs.held g.J.Jobs.total g.J.Jobs.taken g.J.Jobs.load g.J.Jobs.faults) c.args.host.now c.args.running.now c.args.seat.now c.args.pace.now.turns) (state g.H.Host.log g.H.Host.patience (seen_by g.J.Jobs.held g.J.Jobs.total g.J.Jobs.taken g.J.Jobs.load g.J.Jobs.faults) c.passes.host c.passes.running c.passes.seat c.passes.pace.turns) (state g.H.Host.log g.H.Host.patience (seen_by g.J.Jobs.held g.J.Jobs.total g.J.Jobs.taken g.J.Jobs.load g.J.Jobs.faults) c.fill.new.host c.fill.new.running c.fill.new.seat c.passes.pace.turns) (tt {0}) (Ok c.in-Ok.step) (Ok c.in-Ok.step) (ap (λ p. rules_of c.args.batch.now p) c.passes.invariant.plan) c.passes.invariant.works (c.in-Ok.ensures.steps c.passes.pace.turns) c.passes.invariant.lines c.in-Ok.ensures.lines) c.in-Err-turn.ensures.lines

pub returns-clause-steps : goal.returns-clause-steps
returns-clause-steps g c = (steps_then {T = Step} (rules_of c.args.batch.now (g.Q.Queue.plan c.args.queue.now)) (rules_of c.args.batch.now (g.Q.Queue.plan c.passes.queue)) (g.J.Jobs.total c.args.seat.now) (g.J.Jobs.total c.passes.seat) (state g.H.Host.log g.H.Host.patience (seen_by g.J.Jobs.held g.J.Jobs.total g.J.Jobs.taken g.J.Jobs.load g.J.Jobs.faults) c.args.host.now c.args.running.now c.args.seat.now c.args.pace.now.turns) (state g.H.Host.log g.H.Host.patience (seen_by g.J.Jobs.held g.J.Jobs.total g.J.Jobs.taken g.J.Jobs.load g.J.Jobs.faults) c.passes.host c.passes.running c.passes.seat c.passes.pace.turns) (state g.H.Host.log g.H.Host.patience (seen_by g.J.Jobs.held g.J.Jobs.total g.J.Jobs.taken g.J.Jobs.load g.J.Jobs.faults) c.fill.new.host c.fill.new.running c.fill.new.seat c.passes.pace.turns) (Ok c.in-Ok.step) (ap (λ p. rules_of c.args.batch.now p) c.passes.invariant.plan) c.passes.invariant.total c.passes.invariant.works (c.in-Ok.ensures.steps c.passes.pace.turns))

pub returns-clause-lines : goal.returns-clause-lines
returns-clause-lines g c = (lines_then {T = Step} (rules_of c.args.batch.now (g.Q.Queue.plan c.args.queue.now)) (rules_of c.args.batch.now (g.Q.Queue.plan c.passes.queue)) (g.J.Jobs.total c.args.seat.now) (g.J.Jobs.total c.passes.seat) (state g.H.Host.log g.H.Host.patience (seen_by g.J.Jobs.held g.J.Jobs.total g.J.Jobs.taken g.J.Jobs.load g.J.Jobs.faults) c.args.host.now c.args.running.now c.args.seat.now c.args.pace.now.turns) (state g.H.Host.log g.H.Host.patience (seen_by g.J.Jobs.held g.J.Jobs.total g.J.Jobs.taken g.J.Jobs.load g.J.Jobs.faults) c.passes.host c.passes.running c.passes.seat c.passes.pace.turns) (state g.H.Host.log g.H.Host.patience (seen_by g.J.Jobs.held g.J.Jobs.total g.J.Jobs.taken g.J.Jobs.load g.J.Jobs.faults) c.fill.new.host c.fill.new.running c.fill.new.seat c.passes.pace.turns) (tt {0}) (Ok c.in-Ok.step) (Ok c.in-Ok.step) (ap (λ p. rules_of c.args.batch.now p) c.passes.invariant.plan) c.passes.invariant.works (c.in-Ok.ensures.steps c.passes.pace.turns) c.passes.invariant.lines c.in-Ok.ensures.lines)
