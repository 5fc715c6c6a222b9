use Rattle.std.proofs.Common.{Ok, Err, refl}
use Rattle.cc_host.specs.Part.{since}
use Rattle.cc_run.proofs.Ends.{ran_total}
use Rattle.cc_build.specs.Went.{terms, means, beside_rules, begins, idle_seat, turns_at}
use Rattle.cc_build.proofs.Running.{ran_all, list_extends, list_patient, list_asks_none, list_sum, together_done, together_refused}
use Rattle.cc_build.proofs.run.run_together.Goals as goal

pub returns-in-Ok-clause-outcome : goal.returns-in-Ok-clause-outcome
returns-in-Ok-clause-outcome g c =
    let t = terms c.args.reporting.shows (g.J.Jobs.total c.args.seat.now) (g.H.Host.patience c.args.host.now) in
    let x = means c.args.turns.now.left (g.J.Jobs.faults c.args.seat.now) (g.J.Jobs.taken c.args.seat.now) (g.J.Jobs.load c.args.seat.now) in
    let y = means c.run_all.new.turns.left (g.J.Jobs.faults c.run_all.new.seat) (g.J.Jobs.taken c.run_all.new.seat) (g.J.Jobs.load c.run_all.new.seat) in (
      refl,
      together_done t c.args.cmds.now (since (g.H.Host.log c.args.host.now) (g.H.Host.log c.run_all.new.host)) x y
          (ran_all t c.args.cmds.now (g.H.Host.log c.args.host.now) (g.H.Host.log c.run_all.new.host) (g.H.Host.patience c.run_all.new.host) x y c.args.turns.now.used c.run_all.new.turns.used (Ok tt) (g.J.Jobs.held c.args.seat.now) (g.J.Jobs.held c.run_all.new.seat) (g.J.Jobs.total c.run_all.new.seat) c.requires.idle.empty c.run_all.ensures.idle.empty c.log-least.ensures.least c.in-Ok.ensures.ran c.in-Ok.ensures.lines),
    )

pub returns-in-Ok-clause-aside : goal.returns-in-Ok-clause-aside
returns-in-Ok-clause-aside g c =
    let t = terms c.args.reporting.shows (g.J.Jobs.total c.args.seat.now) (g.H.Host.patience c.args.host.now) in
    let x = means c.args.turns.now.left (g.J.Jobs.faults c.args.seat.now) (g.J.Jobs.taken c.args.seat.now) (g.J.Jobs.load c.args.seat.now) in
    let y = means c.run_all.new.turns.left (g.J.Jobs.faults c.run_all.new.seat) (g.J.Jobs.taken c.run_all.new.seat) (g.J.Jobs.load c.run_all.new.seat) in
    let old = begins t (g.H.Host.log c.args.host.now) (record (idle_seat (g.J.Jobs.total c.args.seat.now) x) { held = g.J.Jobs.held c.args.seat.now }) (turns_at x c.args.turns.now.used) in
    let seat = record (idle_seat (g.J.Jobs.total c.run_all.new.seat) y) { held = g.J.Jobs.held c.run_all.new.seat } in
    let made = turns_at y c.run_all.new.turns.used in
    record {
      patient = list_patient (beside_rules t c.args.cmds.now) (g.J.Jobs.total c.args.seat.now) old (Ok tt) (g.H.Host.log c.run_all.new.host) (g.H.Host.patience c.run_all.new.host) seat made c.in-Ok.ensures.ran;
      extends = list_extends (beside_rules t c.args.cmds.now) (g.J.Jobs.total c.args.seat.now) old (Ok tt) (g.H.Host.log c.run_all.new.host) (g.H.Host.patience c.run_all.new.host) seat made c.in-Ok.ensures.ran;
      asks_none = list_asks_none (beside_rules t c.args.cmds.now) (g.J.Jobs.total c.args.seat.now) old (Ok tt) (g.H.Host.log c.run_all.new.host) (g.H.Host.patience c.run_all.new.host) seat made c.in-Ok.ensures.ran;
    }

pub returns-in-Ok-clause-sum : goal.returns-in-Ok-clause-sum
returns-in-Ok-clause-sum g c =
    let t = terms c.args.reporting.shows (g.J.Jobs.total c.args.seat.now) (g.H.Host.patience c.args.host.now) in
    let x = means c.args.turns.now.left (g.J.Jobs.faults c.args.seat.now) (g.J.Jobs.taken c.args.seat.now) (g.J.Jobs.load c.args.seat.now) in
    let y = means c.run_all.new.turns.left (g.J.Jobs.faults c.run_all.new.seat) (g.J.Jobs.taken c.run_all.new.seat) (g.J.Jobs.load c.run_all.new.seat) in
    let old = begins t (g.H.Host.log c.args.host.now) (record (idle_seat (g.J.Jobs.total c.args.seat.now) x) { held = g.J.Jobs.held c.args.seat.now }) (turns_at x c.args.turns.now.used) in
    let seat = record (idle_seat (g.J.Jobs.total c.run_all.new.seat) y) { held = g.J.Jobs.held c.run_all.new.seat } in
    let made = turns_at y c.run_all.new.turns.used in
    list_sum (beside_rules t c.args.cmds.now) (g.J.Jobs.total c.args.seat.now) old (Ok tt) (g.H.Host.log c.run_all.new.host) (g.H.Host.patience c.run_all.new.host) seat made c.in-Ok.ensures.ran

pub returns-in-Ok-clause-total : goal.returns-in-Ok-clause-total
returns-in-Ok-clause-total g c =
    let t = terms c.args.reporting.shows (g.J.Jobs.total c.args.seat.now) (g.H.Host.patience c.args.host.now) in
    let x = means c.args.turns.now.left (g.J.Jobs.faults c.args.seat.now) (g.J.Jobs.taken c.args.seat.now) (g.J.Jobs.load c.args.seat.now) in
    let y = means c.run_all.new.turns.left (g.J.Jobs.faults c.run_all.new.seat) (g.J.Jobs.taken c.run_all.new.seat) (g.J.Jobs.load c.run_all.new.seat) in
    let old = begins t (g.H.Host.log c.args.host.now) (record (idle_seat (g.J.Jobs.total c.args.seat.now) x) { held = g.J.Jobs.held c.args.seat.now }) (turns_at x c.args.turns.now.used) in
    let seat = record (idle_seat (g.J.Jobs.total c.run_all.new.seat) y) { held = g.J.Jobs.held c.run_all.new.seat } in
    let made = turns_at y c.run_all.new.turns.used in
    ran_total (beside_rules t c.args.cmds.now) (g.J.Jobs.total c.args.seat.now) old c.in-Ok.ensures.ran.general (g.H.Host.log c.run_all.new.host) (g.H.Host.patience c.run_all.new.host) seat made c.in-Ok.ensures.ran.ran

pub returns-in-Err-clause-outcome : goal.returns-in-Err-clause-outcome
returns-in-Err-clause-outcome g c =
    let t = terms c.args.reporting.shows (g.J.Jobs.total c.args.seat.now) (g.H.Host.patience c.args.host.now) in
    let x = means c.args.turns.now.left (g.J.Jobs.faults c.args.seat.now) (g.J.Jobs.taken c.args.seat.now) (g.J.Jobs.load c.args.seat.now) in
    let y = means c.run_all.new.turns.left (g.J.Jobs.faults c.run_all.new.seat) (g.J.Jobs.taken c.run_all.new.seat) (g.J.Jobs.load c.run_all.new.seat) in
    together_refused t c.args.cmds.now (since (g.H.Host.log c.args.host.now) (g.H.Host.log c.run_all.new.host)) x y c.in-Err.e c.of_run.result
    (ran_all t c.args.cmds.now (g.H.Host.log c.args.host.now) (g.H.Host.log c.run_all.new.host) (g.H.Host.patience c.run_all.new.host) x y c.args.turns.now.used c.run_all.new.turns.used (Err c.in-Err.e) (g.J.Jobs.held c.args.seat.now) (g.J.Jobs.held c.run_all.new.seat) (g.J.Jobs.total c.run_all.new.seat) c.requires.idle.empty c.run_all.ensures.idle.empty c.log-least.ensures.least c.in-Err.ensures.ran c.in-Err.ensures.lines)
    c.of_run.ensures

pub returns-in-Err-clause-aside : goal.returns-in-Err-clause-aside
returns-in-Err-clause-aside g c =
    let t = terms c.args.reporting.shows (g.J.Jobs.total c.args.seat.now) (g.H.Host.patience c.args.host.now) in
    let x = means c.args.turns.now.left (g.J.Jobs.faults c.args.seat.now) (g.J.Jobs.taken c.args.seat.now) (g.J.Jobs.load c.args.seat.now) in
    let y = means c.run_all.new.turns.left (g.J.Jobs.faults c.run_all.new.seat) (g.J.Jobs.taken c.run_all.new.seat) (g.J.Jobs.load c.run_all.new.seat) in
    let old = begins t (g.H.Host.log c.args.host.now) (record (idle_seat (g.J.Jobs.total c.args.seat.now) x) { held = g.J.Jobs.held c.args.seat.now }) (turns_at x c.args.turns.now.used) in
    let seat = record (idle_seat (g.J.Jobs.total c.run_all.new.seat) y) { held = g.J.Jobs.held c.run_all.new.seat } in
    let made = turns_at y c.run_all.new.turns.used in
    record {
      patient = list_patient (beside_rules t c.args.cmds.now) (g.J.Jobs.total c.args.seat.now) old (Err c.in-Err.e) (g.H.Host.log c.run_all.new.host) (g.H.Host.patience c.run_all.new.host) seat made c.in-Err.ensures.ran;
      extends = list_extends (beside_rules t c.args.cmds.now) (g.J.Jobs.total c.args.seat.now) old (Err c.in-Err.e) (g.H.Host.log c.run_all.new.host) (g.H.Host.patience c.run_all.new.host) seat made c.in-Err.ensures.ran;
      asks_none = list_asks_none (beside_rules t c.args.cmds.now) (g.J.Jobs.total c.args.seat.now) old (Err c.in-Err.e) (g.H.Host.log c.run_all.new.host) (g.H.Host.patience c.run_all.new.host) seat made c.in-Err.ensures.ran;
    }

pub returns-in-Err-clause-sum : goal.returns-in-Err-clause-sum
returns-in-Err-clause-sum g c =
    let t = terms c.args.reporting.shows (g.J.Jobs.total c.args.seat.now) (g.H.Host.patience c.args.host.now) in
    let x = means c.args.turns.now.left (g.J.Jobs.faults c.args.seat.now) (g.J.Jobs.taken c.args.seat.now) (g.J.Jobs.load c.args.seat.now) in
    let y = means c.run_all.new.turns.left (g.J.Jobs.faults c.run_all.new.seat) (g.J.Jobs.taken c.run_all.new.seat) (g.J.Jobs.load c.run_all.new.seat) in
    let old = begins t (g.H.Host.log c.args.host.now) (record (idle_seat (g.J.Jobs.total c.args.seat.now) x) { held = g.J.Jobs.held c.args.seat.now }) (turns_at x c.args.turns.now.used) in
    let seat = record (idle_seat (g.J.Jobs.total c.run_all.new.seat) y) { held = g.J.Jobs.held c.run_all.new.seat } in
    let made = turns_at y c.run_all.new.turns.used in
    list_sum (beside_rules t c.args.cmds.now) (g.J.Jobs.total c.args.seat.now) old (Err c.in-Err.e) (g.H.Host.log c.run_all.new.host) (g.H.Host.patience c.run_all.new.host) seat made c.in-Err.ensures.ran

pub returns-in-Err-clause-total : goal.returns-in-Err-clause-total
returns-in-Err-clause-total g c =
    let t = terms c.args.reporting.shows (g.J.Jobs.total c.args.seat.now) (g.H.Host.patience c.args.host.now) in
    let x = means c.args.turns.now.left (g.J.Jobs.faults c.args.seat.now) (g.J.Jobs.taken c.args.seat.now) (g.J.Jobs.load c.args.seat.now) in
    let y = means c.run_all.new.turns.left (g.J.Jobs.faults c.run_all.new.seat) (g.J.Jobs.taken c.run_all.new.seat) (g.J.Jobs.load c.run_all.new.seat) in
    let old = begins t (g.H.Host.log c.args.host.now) (record (idle_seat (g.J.Jobs.total c.args.seat.now) x) { held = g.J.Jobs.held c.args.seat.now }) (turns_at x c.args.turns.now.used) in
    let seat = record (idle_seat (g.J.Jobs.total c.run_all.new.seat) y) { held = g.J.Jobs.held c.run_all.new.seat } in
    let made = turns_at y c.run_all.new.turns.used in
    ran_total (beside_rules t c.args.cmds.now) (g.J.Jobs.total c.args.seat.now) old c.in-Err.ensures.ran.general (g.H.Host.log c.run_all.new.host) (g.H.Host.patience c.run_all.new.host) seat made c.in-Err.ensures.ran.ran
