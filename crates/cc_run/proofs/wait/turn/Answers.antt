use Rattle.std.proofs.Common.{◌≡◌, ◌∙◌, ◌++◌, ◌∷◌, ap, sym, subst, refl, Ok, Err}
use Rattle.cc_host.specs.Children.{IsNews}
use Rattle.cc_host.specs.declared.event.Event.TheVariants.{Turn}
use Rattle.cc_run.specs.Hearing.{reports}
use Rattle.cc_run.specs.Rules.{rules_of}
use Rattle.cc_run.specs.Seat.{seen_by}
use Rattle.cc_run.specs.State.{Stops}
use Rattle.cc_run.proofs.PrintingLemmas.{turn_printed, unturned_printed}
use Rattle.cc_run.proofs.WorkLemmas.{st, works_turn, told_steps, unturned_stops}
use Rattle.cc_run.proofs.wait.turn.Goals as goal

pub returns-in-Err-clause-steps : goal.returns-in-Err-clause-steps
returns-in-Err-clause-steps g c = λ total busy.
    subst (λ t. Stops (rules_of c.args.batch.now (g.Q.Queue.plan c.args.queue.now)) total (st (g.H.Host.log c.args.host.now) (g.H.Host.patience c.args.host.now) c.args.running.now (seen_by g.J.Jobs.held g.J.Jobs.total g.J.Jobs.taken g.J.Jobs.load g.J.Jobs.faults c.args.seat.now) c.args.pace.now.turns) c.in-Err.e (st (g.H.Host.log c.turn_once.new.host) (g.H.Host.patience c.turn_once.new.host) c.args.running.now (seen_by g.J.Jobs.held g.J.Jobs.total g.J.Jobs.taken g.J.Jobs.load g.J.Jobs.faults c.args.seat.now) t)) (sym c.in-Err.ensures.turns)
    (unturned_stops (rules_of c.args.batch.now (g.Q.Queue.plan c.args.queue.now)) total (g.H.Host.patience c.args.host.now) (g.H.Host.patience c.turn_once.new.host) (g.H.Host.log c.args.host.now) (g.H.Host.log c.turn_once.new.host) c.args.running.now (seen_by g.J.Jobs.held g.J.Jobs.total g.J.Jobs.taken g.J.Jobs.load g.J.Jobs.faults c.args.seat.now) c.args.pace.now.turns c.in-Err.e c.turn_once.ensures.patient c.in-Err.ensures.err (λ e. c.in-Err.ensures.spent (ap Err e)) c.requires.unsettled)

pub returns-in-Err-clause-lines : goal.returns-in-Err-clause-lines
returns-in-Err-clause-lines g c = unturned_printed (Unit {0}) (rules_of c.args.batch.now (g.Q.Queue.plan c.args.queue.now)) c.args.running.now (g.H.Host.log c.args.host.now) (g.H.Host.log c.turn_once.new.host) c.in-Err.e c.in-Err.ensures.err

pub returns-clause-steps : goal.returns-clause-steps
returns-clause-steps g c =
    let d : c.deref.result.now ≡ c.in-Ok.news.items = c.deref.ensures.value in
    let ok = c.in-Ok.ensures.ok ∙ ap (λ n. (g.H.Host.log c.args.host.now) ++ Turn 1 ∷ reports n) (sym d) in
    λ total busy.
    told_steps (rules_of c.args.batch.now (g.Q.Queue.plan c.args.queue.now)) total (g.H.Host.log c.args.host.now) (g.H.Host.log c.turn_once.new.host) (g.H.Host.log c.take_news-taken.new.host) (g.H.Host.patience c.args.host.now) (g.H.Host.patience c.turn_once.new.host) (g.H.Host.patience c.take_news-taken.new.host) c.args.running.now c.take_news-taken.new.running (seen_by g.J.Jobs.held g.J.Jobs.total g.J.Jobs.taken g.J.Jobs.load g.J.Jobs.faults c.args.seat.now) (seen_by g.J.Jobs.held g.J.Jobs.total g.J.Jobs.taken g.J.Jobs.load g.J.Jobs.faults c.take_news-taken.new.seat) c.args.pace.now.turns c.turn_once.new.turns c.deref.result.now c.take_news-taken.result
    (works_turn (rules_of c.args.batch.now (g.Q.Queue.plan c.args.queue.now)) total (g.H.Host.log c.args.host.now) (g.H.Host.log c.turn_once.new.host) (g.H.Host.patience c.args.host.now) (g.H.Host.patience c.turn_once.new.host) c.args.running.now (seen_by g.J.Jobs.held g.J.Jobs.total g.J.Jobs.taken g.J.Jobs.load g.J.Jobs.faults c.args.seat.now) (seen_by g.J.Jobs.held g.J.Jobs.total g.J.Jobs.taken g.J.Jobs.load g.J.Jobs.faults c.take_news-taken.new.seat) c.args.pace.now.turns c.turn_once.new.turns c.deref.result.now busy ok c.turn_once.ensures.patient c.in-Ok.ensures.waits (subst (IsNews (g.H.Host.log c.args.host.now)) (sym d) c.in-Ok.ensures.news) c.take_news-taken.ensures.seat c.in-Ok.ensures.turns)
    c.take_news-taken.ensures.host.0 c.take_news-taken.ensures.run c.take_news-taken.ensures.children c.take_news-taken.ensures.lines.0 c.take_news-taken.ensures.host.1 c.take_news-taken.ensures.lines.1

pub returns-clause-lines : goal.returns-clause-lines
returns-clause-lines g c =
    let d : c.deref.result.now ≡ c.in-Ok.news.items = c.deref.ensures.value in
    turn_printed (rules_of c.args.batch.now (g.Q.Queue.plan c.args.queue.now)) c.args.running.now c.deref.result.now c.take_news-taken.result (g.H.Host.log c.args.host.now) (g.H.Host.log c.turn_once.new.host) (g.H.Host.log c.take_news-taken.new.host) (c.in-Ok.ensures.ok ∙ ap (λ n. (g.H.Host.log c.args.host.now) ++ Turn 1 ∷ reports n) (sym d)) c.take_news-taken.ensures.host.1 c.take_news-taken.ensures.lines.1 c.take_news-taken.ensures.lines.0
