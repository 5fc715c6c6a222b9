use Rattle.std.proofs.Common.{◌≡◌, ◌∙◌, ap, sym, subst, refl, Ok, Err, Some, None, arith}
use Rattle.std.specs.List.{slice_get}
use Rattle.std.proofs.lemmas.Grind.{common_steps}
use Rattle.cc_host.specs.Part.{since}
use Rattle.cc_run.specs.Rules.{rules_of}
use Rattle.cc_run.specs.Seat.{seen_by}
use Rattle.cc_run.specs.State.{Works, Stops}
use Rattle.cc_run.specs.declared.error.RunError.TheVariants.{JobFault}
use Rattle.cc_run.specs.declared.error.Step.{Step}
use Rattle.cc_run.specs.declared.error.Step.TheVariants.{Ready, Pending}
use Rattle.cc_run.proofs.Firsts.{next_is}
use Rattle.cc_run.proofs.PrintingLemmas.{nothing_printed, start_printed, unstarted_printed}
use Rattle.cc_run.proofs.WorkLemmas.{st, works_still, works_start, stops_start, stops_fault, up_stands, some_there, room_of, full_of}
use Rattle.cc_run.proofs.spawn.start_next.Goals as goal

pub unreachable-requires : goal.unreachable-requires
unreachable-requires g c = some_there (g.Q.Queue.plan c.args.queue.now).cmds c.args.place c.requires.next.below (grind (arith, common_steps))

pub returns-in-Ok-Pending-clause-steps : goal.returns-in-Ok-Pending-clause-steps
returns-in-Ok-Pending-clause-steps g c =
    let same = c.in-Ok-Pending.ensures.other (let e = c.in-Ok-Pending.field-0-is in λ w. cc) in
    λ turns. works_still (rules_of c.args.batch.now (g.Q.Queue.plan c.args.queue.now)) (g.J.Jobs.total c.args.seat.now) _ _ refl refl refl (record { same_total = c.take.ensures.total; same_taken = same.1; same_load = same.2; later = c.take.ensures.later }) refl

pub returns-in-Ok-Pending-clause-started : goal.returns-in-Ok-Pending-clause-started
returns-in-Ok-Pending-clause-started g c = (refl, full_of _ _ (g.J.Jobs.total c.args.seat.now) _ _ c.requires.agrees.tokens (ap Ok c.in-Ok-Pending.field-0-is) c.take.ensures.bounded.0 c.in-Ok-Pending.ensures.full)

pub returns-in-Ok-Pending-clause-lines : goal.returns-in-Ok-Pending-clause-lines
returns-in-Ok-Pending-clause-lines g c = nothing_printed {T = Step} (rules_of c.args.batch.now (g.Q.Queue.plan c.args.queue.now)) c.args.running.now (g.H.Host.log c.args.host.now) (Ok Pending) refl

pub returns-in-Err-clause-steps : goal.returns-in-Err-clause-steps
returns-in-Err-clause-steps g c =
    let same = c.in-Err.ensures.other (λ w. cc) in
    λ turns. stops_fault (rules_of c.args.batch.now (g.Q.Queue.plan c.args.queue.now)) (g.J.Jobs.total c.args.seat.now) (g.H.Host.patience c.args.host.now) (g.H.Host.log c.args.host.now) c.args.running.now (seen_by g.J.Jobs.held g.J.Jobs.total g.J.Jobs.taken g.J.Jobs.load g.J.Jobs.faults c.args.seat.now) (seen_by g.J.Jobs.held g.J.Jobs.total g.J.Jobs.taken g.J.Jobs.load g.J.Jobs.faults c.take.new.seat) turns same.0 (record { same_total = c.take.ensures.total; same_taken = same.1; same_load = same.2; later = c.take.ensures.later }) c.in-Err.ensures.fault

pub returns-in-Err-clause-lines : goal.returns-in-Err-clause-lines
returns-in-Err-clause-lines g c = nothing_printed {T = Step} (rules_of c.args.batch.now (g.Q.Queue.plan c.args.queue.now)) c.args.running.now (g.H.Host.log c.args.host.now) (Err JobFault) refl

pub returns-in-Ok-clause-steps : goal.returns-in-Ok-clause-steps
returns-in-Ok-clause-steps g c =
    let token = c.in-Ok-Token.ensures.token (ap Ok c.in-Ok-Token.field-0-is) in
    let its : slice_get (g.Q.Queue.plan c.args.queue.now).cmds c.args.place ≡ Some c.in-Some.planned.now = grind (arith, common_steps) in
    λ turns. subst (λ p. Works (rules_of c.args.batch.now (g.Q.Queue.plan c.args.queue.now)) (g.J.Jobs.total c.args.seat.now) (st (g.H.Host.log c.args.host.now) (g.H.Host.patience c.args.host.now) c.args.running.now (seen_by g.J.Jobs.held g.J.Jobs.total g.J.Jobs.taken g.J.Jobs.load g.J.Jobs.faults c.args.seat.now) turns) (st (g.H.Host.log c.start.new.host) p c.start.new.running (seen_by g.J.Jobs.held g.J.Jobs.total g.J.Jobs.taken g.J.Jobs.load g.J.Jobs.faults c.take.new.seat) turns)) (sym c.start.ensures.patient)
    (works_start (rules_of c.args.batch.now (g.Q.Queue.plan c.args.queue.now)) (g.J.Jobs.total c.args.seat.now) (g.H.Host.patience c.args.host.now) c.args.running.now c.start.new.running (seen_by g.J.Jobs.held g.J.Jobs.total g.J.Jobs.taken g.J.Jobs.load g.J.Jobs.faults c.args.seat.now) (seen_by g.J.Jobs.held g.J.Jobs.total g.J.Jobs.taken g.J.Jobs.load g.J.Jobs.faults c.take.new.seat) turns c.in-Some.planned.now c.args.place c.carried-held.result c.in-Ok.field-0 (g.H.Host.log c.args.host.now) (g.H.Host.log c.start.new.host) (since (g.H.Host.log c.args.host.now) (g.H.Host.log c.start.new.host)) c.requires.next its
    (record { more_held = token.0; same_total = c.take.ensures.total; more_taken = up_stands _ _ 1 token.1; more_load = up_stands _ _ _ token.2; later = c.take.ensures.later })
    c.carried-held.ensures c.requires.agrees.tokens (room_of _ _ _ _ c.take.ensures.total token.0 c.take.ensures.bounded.1) c.in-Ok.ensures.fresh c.start.ensures.extends c.in-Ok.ensures.part)

pub returns-in-Ok-clause-started : goal.returns-in-Ok-clause-started
returns-in-Ok-clause-started g c = (c.in-Ok.field-0, c.args.place, (next_is (g.Q.Queue.plan c.args.queue.now) c.args.running.now.marks (Some c.args.place) c.requires.next, c.in-Ok.ensures.part.1))

pub returns-in-Ok-clause-lines : goal.returns-in-Ok-clause-lines
returns-in-Ok-clause-lines g c =
    let its : slice_get (g.Q.Queue.plan c.args.queue.now).cmds c.args.place ≡ Some c.in-Some.planned.now = grind (arith, common_steps) in
    (start_printed {X = Step} (rules_of c.args.batch.now (g.Q.Queue.plan c.args.queue.now)) c.in-Some.planned.now c.args.place c.carried-held.result c.args.running.now c.start.new.running (since (g.H.Host.log c.args.host.now) (g.H.Host.log c.start.new.host)) c.in-Ok.field-0 Ready c.in-Ok.ensures.part (next_is (g.Q.Queue.plan c.args.queue.now) c.args.running.now.marks (Some c.args.place) c.requires.next) its).1

pub returns-in-Err-start-clause-steps : goal.returns-in-Err-start-clause-steps
returns-in-Err-start-clause-steps g c =
    let token = c.in-Ok-Token.ensures.token (ap Ok c.in-Ok-Token.field-0-is) in
    let its : slice_get (g.Q.Queue.plan c.args.queue.now).cmds c.args.place ≡ Some c.in-Some.planned.now = grind (arith, common_steps) in
    λ turns. subst (λ p. Stops (rules_of c.args.batch.now (g.Q.Queue.plan c.args.queue.now)) (g.J.Jobs.total c.args.seat.now) (st (g.H.Host.log c.args.host.now) (g.H.Host.patience c.args.host.now) c.args.running.now (seen_by g.J.Jobs.held g.J.Jobs.total g.J.Jobs.taken g.J.Jobs.load g.J.Jobs.faults c.args.seat.now) turns) c.in-Err-start.e (st (g.H.Host.log c.start.new.host) p c.start.new.running (seen_by g.J.Jobs.held g.J.Jobs.total g.J.Jobs.taken g.J.Jobs.load g.J.Jobs.faults c.give.new.seat) turns)) (sym c.start.ensures.patient)
    (stops_start (rules_of c.args.batch.now (g.Q.Queue.plan c.args.queue.now)) (g.J.Jobs.total c.args.seat.now) (g.H.Host.patience c.args.host.now) c.args.running.now (seen_by g.J.Jobs.held g.J.Jobs.total g.J.Jobs.taken g.J.Jobs.load g.J.Jobs.faults c.args.seat.now) (seen_by g.J.Jobs.held g.J.Jobs.total g.J.Jobs.taken g.J.Jobs.load g.J.Jobs.faults c.take.new.seat) (seen_by g.J.Jobs.held g.J.Jobs.total g.J.Jobs.taken g.J.Jobs.load g.J.Jobs.faults c.give.new.seat) turns c.in-Some.planned.now c.args.place c.carried-held.result (g.H.Host.log c.args.host.now) (g.H.Host.log c.start.new.host) (since (g.H.Host.log c.args.host.now) (g.H.Host.log c.start.new.host)) c.start.new.running c.in-Err-start.e c.requires.next its
    (record { more_held = token.0; same_total = c.take.ensures.total; more_taken = up_stands _ _ 1 token.1; more_load = up_stands _ _ _ token.2; later = c.take.ensures.later })
    c.give.ensures.held (record { same_total = c.give.ensures.total; same_taken = c.give.ensures.counts.0; same_load = c.give.ensures.counts.1; later = c.give.ensures.later }) c.start.ensures.extends c.in-Err-start.ensures.part)

pub returns-in-Err-start-clause-lines : goal.returns-in-Err-start-clause-lines
returns-in-Err-start-clause-lines g c =
    let its : slice_get (g.Q.Queue.plan c.args.queue.now).cmds c.args.place ≡ Some c.in-Some.planned.now = grind (arith, common_steps) in
    unstarted_printed Step (rules_of c.args.batch.now (g.Q.Queue.plan c.args.queue.now)) c.in-Some.planned.now c.args.place c.carried-held.result c.args.running.now c.start.new.running (since (g.H.Host.log c.args.host.now) (g.H.Host.log c.start.new.host)) c.in-Err-start.e c.in-Err-start.ensures.part (next_is (g.Q.Queue.plan c.args.queue.now) c.args.running.now.marks (Some c.args.place) c.requires.next) its
