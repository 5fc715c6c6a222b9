use Rattle.std.proofs.Common.{◌≡◌, ◌∙◌, ap, Bool, List, Ok, Err, refl}
use Rattle.cc_host.specs.Part.{since}
use Rattle.cc_run.specs.Listed.{listed_plan}
use Rattle.cc_run.specs.Rules.{rules}
use Rattle.cc_run.specs.declared.planned.Planned.{Planned}
use Rattle.cc_run.proofs.Ends.{ran_total}
use Rattle.cc_build.specs.Course.{course}
use Rattle.cc_build.specs.Went.{terms, means, begins, idle_seat, turns_at}
use Rattle.cc_fleet.proofs.RunLemmas.{ran_several, several_ran, several_sum, several_asks_none, several_extends, several_patient}
use Rattle.cc_fleet.proofs.run.run_several.Goals as goal

pub returns-in-Ok-clause-ran : goal.returns-in-Ok-clause-ran
returns-in-Ok-clause-ran g c =
    let t = terms c.args.shows.now (g.J.Jobs.total c.args.seat.now) (g.H.Host.patience c.args.host.now) in
    let x = means c.args.turns.now.left (g.J.Jobs.faults c.args.seat.now) (g.J.Jobs.taken c.args.seat.now) (g.J.Jobs.load c.args.seat.now) in
    let y = means c.run_queue.new.turns.left (g.J.Jobs.faults c.run_queue.new.seat) (g.J.Jobs.taken c.run_queue.new.seat) (g.J.Jobs.load c.run_queue.new.seat) in
    let plan = listed_plan c.new-queue.result.stop c.new-queue.result.cmds.now in
    let listed : plan ≡ listed_plan c.args.shows.now.stop c.args.joined.now.commands.items =
    ap (λ (stop : Bool). listed_plan stop c.new-queue.result.cmds.now) c.new-queue.ensures.stop ∙ ap (λ (cmds : List Planned). listed_plan c.args.shows.now.stop cmds) (c.new-queue.ensures.cmds ∙ c.deref.ensures.value) in
    let own : c.as_slice.result.now ≡ c.in-Ok.marks = c.as_slice.ensures in
    let by = rw own at c.failures_by.ensures in
    several_ran c.args.shows.now c.args.joined.now c.in-Ok.marks c.failures_by.result (since (g.H.Host.log c.args.host.now) (g.H.Host.log c.run_queue.new.host)) (course (g.J.Jobs.total c.args.seat.now) (g.H.Host.patience c.args.host.now) x y)
    (ran_several t c.args.joined.now.commands.items (g.H.Host.log c.args.host.now) (g.H.Host.log c.run_queue.new.host) (g.H.Host.patience c.run_queue.new.host) x y c.args.turns.now.used c.run_queue.new.turns.used plan listed (Ok c.in-Ok.marks) (g.J.Jobs.held c.args.seat.now) (g.J.Jobs.held c.run_queue.new.seat) (g.J.Jobs.total c.run_queue.new.seat) c.requires.idle.empty c.run_queue.ensures.idle.empty c.log-least.ensures.least c.in-Ok.ensures.ran c.in-Ok.ensures.lines)
    by

pub returns-in-Ok-clause-aside : goal.returns-in-Ok-clause-aside
returns-in-Ok-clause-aside g c =
    let t = terms c.args.shows.now (g.J.Jobs.total c.args.seat.now) (g.H.Host.patience c.args.host.now) in
    let x = means c.args.turns.now.left (g.J.Jobs.faults c.args.seat.now) (g.J.Jobs.taken c.args.seat.now) (g.J.Jobs.load c.args.seat.now) in
    let y = means c.run_queue.new.turns.left (g.J.Jobs.faults c.run_queue.new.seat) (g.J.Jobs.taken c.run_queue.new.seat) (g.J.Jobs.load c.run_queue.new.seat) in
    let plan = listed_plan c.new-queue.result.stop c.new-queue.result.cmds.now in
    let old = begins t (g.H.Host.log c.args.host.now) (record (idle_seat (g.J.Jobs.total c.args.seat.now) x) { held = g.J.Jobs.held c.args.seat.now }) (turns_at x c.args.turns.now.used) in
    let seat = record (idle_seat (g.J.Jobs.total c.run_queue.new.seat) y) { held = g.J.Jobs.held c.run_queue.new.seat } in
    let made = turns_at y c.run_queue.new.turns.used in
    record {
      patient = several_patient (rules plan t.shows) (g.J.Jobs.total c.args.seat.now) old (Ok c.in-Ok.marks) (g.H.Host.log c.run_queue.new.host) (g.H.Host.patience c.run_queue.new.host) seat made c.in-Ok.ensures.ran;
      extends = several_extends (rules plan t.shows) (g.J.Jobs.total c.args.seat.now) old (Ok c.in-Ok.marks) (g.H.Host.log c.run_queue.new.host) (g.H.Host.patience c.run_queue.new.host) seat made c.in-Ok.ensures.ran;
      asks_none = several_asks_none (rules plan t.shows) (g.J.Jobs.total c.args.seat.now) old (Ok c.in-Ok.marks) (g.H.Host.log c.run_queue.new.host) (g.H.Host.patience c.run_queue.new.host) seat made c.in-Ok.ensures.ran;
    }

pub returns-in-Ok-clause-sum : goal.returns-in-Ok-clause-sum
returns-in-Ok-clause-sum g c =
    let t = terms c.args.shows.now (g.J.Jobs.total c.args.seat.now) (g.H.Host.patience c.args.host.now) in
    let x = means c.args.turns.now.left (g.J.Jobs.faults c.args.seat.now) (g.J.Jobs.taken c.args.seat.now) (g.J.Jobs.load c.args.seat.now) in
    let y = means c.run_queue.new.turns.left (g.J.Jobs.faults c.run_queue.new.seat) (g.J.Jobs.taken c.run_queue.new.seat) (g.J.Jobs.load c.run_queue.new.seat) in
    let plan = listed_plan c.new-queue.result.stop c.new-queue.result.cmds.now in
    let old = begins t (g.H.Host.log c.args.host.now) (record (idle_seat (g.J.Jobs.total c.args.seat.now) x) { held = g.J.Jobs.held c.args.seat.now }) (turns_at x c.args.turns.now.used) in
    let seat = record (idle_seat (g.J.Jobs.total c.run_queue.new.seat) y) { held = g.J.Jobs.held c.run_queue.new.seat } in
    let made = turns_at y c.run_queue.new.turns.used in
    several_sum (rules plan t.shows) (g.J.Jobs.total c.args.seat.now) old (Ok c.in-Ok.marks) (g.H.Host.log c.run_queue.new.host) (g.H.Host.patience c.run_queue.new.host) seat made c.in-Ok.ensures.ran

pub returns-in-Ok-clause-total : goal.returns-in-Ok-clause-total
returns-in-Ok-clause-total g c =
    let t = terms c.args.shows.now (g.J.Jobs.total c.args.seat.now) (g.H.Host.patience c.args.host.now) in
    let x = means c.args.turns.now.left (g.J.Jobs.faults c.args.seat.now) (g.J.Jobs.taken c.args.seat.now) (g.J.Jobs.load c.args.seat.now) in
    let y = means c.run_queue.new.turns.left (g.J.Jobs.faults c.run_queue.new.seat) (g.J.Jobs.taken c.run_queue.new.seat) (g.J.Jobs.load c.run_queue.new.seat) in
    let plan = listed_plan c.new-queue.result.stop c.new-queue.result.cmds.now in
    let old = begins t (g.H.Host.log c.args.host.now) (record (idle_seat (g.J.Jobs.total c.args.seat.now) x) { held = g.J.Jobs.held c.args.seat.now }) (turns_at x c.args.turns.now.used) in
    let seat = record (idle_seat (g.J.Jobs.total c.run_queue.new.seat) y) { held = g.J.Jobs.held c.run_queue.new.seat } in
    let made = turns_at y c.run_queue.new.turns.used in
    ran_total (rules plan t.shows) (g.J.Jobs.total c.args.seat.now) old (Ok c.in-Ok.marks) (g.H.Host.log c.run_queue.new.host) (g.H.Host.patience c.run_queue.new.host) seat made c.in-Ok.ensures.ran

pub returns-in-Err-clause-ran : goal.returns-in-Err-clause-ran
returns-in-Err-clause-ran g c =
    let t = terms c.args.shows.now (g.J.Jobs.total c.args.seat.now) (g.H.Host.patience c.args.host.now) in
    let x = means c.args.turns.now.left (g.J.Jobs.faults c.args.seat.now) (g.J.Jobs.taken c.args.seat.now) (g.J.Jobs.load c.args.seat.now) in
    let y = means c.run_queue.new.turns.left (g.J.Jobs.faults c.run_queue.new.seat) (g.J.Jobs.taken c.run_queue.new.seat) (g.J.Jobs.load c.run_queue.new.seat) in
    let plan = listed_plan c.new-queue.result.stop c.new-queue.result.cmds.now in
    let listed : plan ≡ listed_plan c.args.shows.now.stop c.args.joined.now.commands.items =
    ap (λ (stop : Bool). listed_plan stop c.new-queue.result.cmds.now) c.new-queue.ensures.stop ∙ ap (λ (cmds : List Planned). listed_plan c.args.shows.now.stop cmds) (c.new-queue.ensures.cmds ∙ c.deref.ensures.value) in
    (Err c.in-Err.e, ((ran_several t c.args.joined.now.commands.items (g.H.Host.log c.args.host.now) (g.H.Host.log c.run_queue.new.host) (g.H.Host.patience c.run_queue.new.host) x y c.args.turns.now.used c.run_queue.new.turns.used plan listed (Err c.in-Err.e) (g.J.Jobs.held c.args.seat.now) (g.J.Jobs.held c.run_queue.new.seat) (g.J.Jobs.total c.run_queue.new.seat) c.requires.idle.empty c.run_queue.ensures.idle.empty c.log-least.ensures.least c.in-Err.ensures.ran c.in-Err.ensures.lines), refl))

pub returns-in-Err-clause-aside : goal.returns-in-Err-clause-aside
returns-in-Err-clause-aside g c =
    let t = terms c.args.shows.now (g.J.Jobs.total c.args.seat.now) (g.H.Host.patience c.args.host.now) in
    let x = means c.args.turns.now.left (g.J.Jobs.faults c.args.seat.now) (g.J.Jobs.taken c.args.seat.now) (g.J.Jobs.load c.args.seat.now) in
    let y = means c.run_queue.new.turns.left (g.J.Jobs.faults c.run_queue.new.seat) (g.J.Jobs.taken c.run_queue.new.seat) (g.J.Jobs.load c.run_queue.new.seat) in
    let plan = listed_plan c.new-queue.result.stop c.new-queue.result.cmds.now in
    let old = begins t (g.H.Host.log c.args.host.now) (record (idle_seat (g.J.Jobs.total c.args.seat.now) x) { held = g.J.Jobs.held c.args.seat.now }) (turns_at x c.args.turns.now.used) in
    let seat = record (idle_seat (g.J.Jobs.total c.run_queue.new.seat) y) { held = g.J.Jobs.held c.run_queue.new.seat } in
    let made = turns_at y c.run_queue.new.turns.used in
    record {
      patient = several_patient (rules plan t.shows) (g.J.Jobs.total c.args.seat.now) old (Err c.in-Err.e) (g.H.Host.log c.run_queue.new.host) (g.H.Host.patience c.run_queue.new.host) seat made c.in-Err.ensures.ran;
      extends = several_extends (rules plan t.shows) (g.J.Jobs.total c.args.seat.now) old (Err c.in-Err.e) (g.H.Host.log c.run_queue.new.host) (g.H.Host.patience c.run_queue.new.host) seat made c.in-Err.ensures.ran;
      asks_none = several_asks_none (rules plan t.shows) (g.J.Jobs.total c.args.seat.now) old (Err c.in-Err.e) (g.H.Host.log c.run_queue.new.host) (g.H.Host.patience c.run_queue.new.host) seat made c.in-Err.ensures.ran;
    }

pub returns-in-Err-clause-sum : goal.returns-in-Err-clause-sum
returns-in-Err-clause-sum g c =
    let t = terms c.args.shows.now (g.J.Jobs.total c.args.seat.now) (g.H.Host.patience c.args.host.now) in
    let x = means c.args.turns.now.left (g.J.Jobs.faults c.args.seat.now) (g.J.Jobs.taken c.args.seat.now) (g.J.Jobs.load c.args.seat.now) in
    let y = means c.run_queue.new.turns.left (g.J.Jobs.faults c.run_queue.new.seat) (g.J.Jobs.taken c.run_queue.new.seat) (g.J.Jobs.load c.run_queue.new.seat) in
    let plan = listed_plan c.new-queue.result.stop c.new-queue.result.cmds.now in
    let old = begins t (g.H.Host.log c.args.host.now) (record (idle_seat (g.J.Jobs.total c.args.seat.now) x) { held = g.J.Jobs.held c.args.seat.now }) (turns_at x c.args.turns.now.used) in
    let seat = record (idle_seat (g.J.Jobs.total c.run_queue.new.seat) y) { held = g.J.Jobs.held c.run_queue.new.seat } in
    let made = turns_at y c.run_queue.new.turns.used in
    several_sum (rules plan t.shows) (g.J.Jobs.total c.args.seat.now) old (Err c.in-Err.e) (g.H.Host.log c.run_queue.new.host) (g.H.Host.patience c.run_queue.new.host) seat made c.in-Err.ensures.ran

pub returns-in-Err-clause-total : goal.returns-in-Err-clause-total
returns-in-Err-clause-total g c =
    let t = terms c.args.shows.now (g.J.Jobs.total c.args.seat.now) (g.H.Host.patience c.args.host.now) in
    let x = means c.args.turns.now.left (g.J.Jobs.faults c.args.seat.now) (g.J.Jobs.taken c.args.seat.now) (g.J.Jobs.load c.args.seat.now) in
    let y = means c.run_queue.new.turns.left (g.J.Jobs.faults c.run_queue.new.seat) (g.J.Jobs.taken c.run_queue.new.seat) (g.J.Jobs.load c.run_queue.new.seat) in
    let plan = listed_plan c.new-queue.result.stop c.new-queue.result.cmds.now in
    let old = begins t (g.H.Host.log c.args.host.now) (record (idle_seat (g.J.Jobs.total c.args.seat.now) x) { held = g.J.Jobs.held c.args.seat.now }) (turns_at x c.args.turns.now.used) in
    let seat = record (idle_seat (g.J.Jobs.total c.run_queue.new.seat) y) { held = g.J.Jobs.held c.run_queue.new.seat } in
    let made = turns_at y c.run_queue.new.turns.used in
    ran_total (rules plan t.shows) (g.J.Jobs.total c.args.seat.now) old (Err c.in-Err.e) (g.H.Host.log c.run_queue.new.host) (g.H.Host.patience c.run_queue.new.host) seat made c.in-Err.ensures.ran
