use Rattle.std.proofs.Common.{◌++◌, ◌∙◌, List, length, ap}
use Rattle.std.proofs.lemmas.List.{length-map}
use Rattle.std.proofs.lemmas.Result.{err_from_is_err_and}
use Rattle.cc_host.specs.Part.{since}
use Rattle.cc_host.specs.declared.event.Event.{Event}
use Rattle.cc_host.proofs.Parts.{since_since}
use Rattle.cc_build.specs.Went.{means}
use Rattle.cc_fleet.specs.Fleet.{member_seen, members_seen, site}
use Rattle.cc_fleet.proofs.FleetLemmas.{planned_objects, failures_count, all_ended_so, fleet_unplanned, fleet_clashes, fleet_stops, fleet_ends}
use Rattle.cc_fleet.proofs.JoinLemmas.{extends_both}
use Rattle.cc_fleet.proofs.fleet.run_fleet.Goals as goal

pub check_files-requires-clause-objects : goal.check_files-requires-clause-objects
check_files-requires-clause-objects g c = λ κs lives.
    planned_objects (site g.W.World.steady g.W.World.answer (g.H.Host.patience c.args.host.now)) (members_seen c.args.members.now) c.in_ok-joined.joined (since (g.H.Host.log c.args.host.now) (g.H.Host.log c.plan_all.new.host)) c.in_ok-joined.ensures.plans

pub end_all-requires-clause-objects : goal.end_all-requires-clause-objects
end_all-requires-clause-objects g c = λ κs lives.
    planned_objects (site g.W.World.steady g.W.World.answer (g.H.Host.patience c.args.host.now)) (members_seen c.args.members.now) c.in_ok-joined.joined (since (g.H.Host.log c.args.host.now) (g.H.Host.log c.plan_all.new.host)) c.in_ok-joined.ensures.plans

pub end_all-requires-clause-size : goal.end_all-requires-clause-size
end_all-requires-clause-size g c =
    let s = site g.W.World.steady g.W.World.answer (g.H.Host.patience c.args.host.now) in
    let total = g.J.Jobs.total c.args.seat.now in
    let ms = members_seen c.args.members.now in
    let x = means c.args.turns (g.J.Jobs.faults c.args.seat.now) (g.J.Jobs.taken c.args.seat.now) (g.J.Jobs.load c.args.seat.now) in
    let old = g.H.Host.log c.args.host.now in
    let planned = g.H.Host.log c.plan_all.new.host in
    let ran = g.H.Host.log c.run_joined.new.host in
    let all = c.in_ok-joined.joined in
    let plans = c.in_ok-joined.ensures.plans in
    let apart = c.in_ok-check_files.ensures.apart in
    let y = means c.run_joined.new.turns.left (g.J.Jobs.faults c.run_joined.new.seat) (g.J.Jobs.taken c.run_joined.new.seat) (g.J.Jobs.load c.run_joined.new.seat) in
    let patience = g.H.Host.patience c.plan_all.new.host in
    λ κs lives. ap length c.as_slice-failures.ensures.value
    ∙ failures_count s total ms x all (since old planned) plans apart (since planned ran) patience c.plan_all.ensures.patient y c.in_ok-failures.failures.items c.in_ok-failures.ensures.ran
    ∙ length-map c.args.members.now member_seen

pub returns-in_err-joined-clause-fleet : goal.returns-in_err-joined-clause-fleet
returns-in_err-joined-clause-fleet g c =
    let s = site g.W.World.steady g.W.World.answer (g.H.Host.patience c.args.host.now) in
    let total = g.J.Jobs.total c.args.seat.now in
    let ms = members_seen c.args.members.now in
    let x = means c.args.turns (g.J.Jobs.faults c.args.seat.now) (g.J.Jobs.taken c.args.seat.now) (g.J.Jobs.load c.args.seat.now) in
    let old = g.H.Host.log c.args.host.now in
    let planned = g.H.Host.log c.plan_all.new.host in
    let p = err_from_is_err_and c.from_residual.result c.from_residual.ensures.1 in
    rw (p.1, p.2) (c.args.turns, fleet_unplanned s total ms x c.in_err-joined.field-0.0 (since old planned) c.in_err-joined.ensures.plans)

pub returns-in_err-check_files-clause-fleet : goal.returns-in_err-check_files-clause-fleet
returns-in_err-check_files-clause-fleet g c =
    let s = site g.W.World.steady g.W.World.answer (g.H.Host.patience c.args.host.now) in
    let total = g.J.Jobs.total c.args.seat.now in
    let ms = members_seen c.args.members.now in
    let x = means c.args.turns (g.J.Jobs.faults c.args.seat.now) (g.J.Jobs.taken c.args.seat.now) (g.J.Jobs.load c.args.seat.now) in
    let old = g.H.Host.log c.args.host.now in
    let planned = g.H.Host.log c.plan_all.new.host in
    let p = err_from_is_err_and c.from_residual-in_err-check_files.result c.from_residual-in_err-check_files.ensures.1 in
    rw (p.1, p.2) (c.args.turns, fleet_clashes s total ms x c.in_ok-joined.joined (since old planned) c.in_ok-joined.ensures.plans c.in_err-check_files.field-0.0 c.in_err-check_files.ensures.refused)

pub returns-in_err-failures-clause-fleet : goal.returns-in_err-failures-clause-fleet
returns-in_err-failures-clause-fleet g c =
    let s = site g.W.World.steady g.W.World.answer (g.H.Host.patience c.args.host.now) in
    let total = g.J.Jobs.total c.args.seat.now in
    let ms = members_seen c.args.members.now in
    let x = means c.args.turns (g.J.Jobs.faults c.args.seat.now) (g.J.Jobs.taken c.args.seat.now) (g.J.Jobs.load c.args.seat.now) in
    let old = g.H.Host.log c.args.host.now in
    let planned = g.H.Host.log c.plan_all.new.host in
    let ran = g.H.Host.log c.run_joined.new.host in
    let all = c.in_ok-joined.joined in
    let plans = c.in_ok-joined.ensures.plans in
    let apart = c.in_ok-check_files.ensures.apart in
    let y = means c.run_joined.new.turns.left (g.J.Jobs.faults c.run_joined.new.seat) (g.J.Jobs.taken c.run_joined.new.seat) (g.J.Jobs.load c.run_joined.new.seat) in
    let patience = g.H.Host.patience c.plan_all.new.host in
    let p = err_from_is_err_and c.from_residual-in_err-failures.result c.from_residual-in_err-failures.ensures.1 in
    rw (p.1, p.2)
    (y.left, fleet_stops s total ms x all (since old planned) plans apart (since planned ran) patience c.plan_all.ensures.patient y c.in_err-failures.field-0.0 (since old ran) (since_since old planned ran c.plan_all.ensures.extends c.run_joined.ensures.aside.extends) c.in_err-failures.ensures.ran)

pub returns-clause-fleet : goal.returns-clause-fleet
returns-clause-fleet g c =
    let s = site g.W.World.steady g.W.World.answer (g.H.Host.patience c.args.host.now) in
    let total = g.J.Jobs.total c.args.seat.now in
    let ms = members_seen c.args.members.now in
    let x = means c.args.turns (g.J.Jobs.faults c.args.seat.now) (g.J.Jobs.taken c.args.seat.now) (g.J.Jobs.load c.args.seat.now) in
    let old = g.H.Host.log c.args.host.now in
    let planned = g.H.Host.log c.plan_all.new.host in
    let ran = g.H.Host.log c.run_joined.new.host in
    let all = c.in_ok-joined.joined in
    let plans = c.in_ok-joined.ensures.plans in
    let apart = c.in_ok-check_files.ensures.apart in
    let y = means c.run_joined.new.turns.left (g.J.Jobs.faults c.run_joined.new.seat) (g.J.Jobs.taken c.run_joined.new.seat) (g.J.Jobs.load c.run_joined.new.seat) in
    let patience = g.H.Host.patience c.plan_all.new.host in
    let new = g.H.Host.log c.end_all.new.host in
    let rest = extends_both planned ran new c.run_joined.ensures.aside.extends c.end_all.ensures.extends in
    let cut = since_since old planned new c.plan_all.ensures.extends rest ∙ ap (λ (l : List Event). since old planned ++ l) (since_since planned ran new c.run_joined.ensures.aside.extends c.end_all.ensures.extends) in
    let ended = all_ended_so g.W.World.steady g.W.World.answer (g.H.Host.patience c.run_joined.new.host) (g.H.Host.patience c.args.host.now) all.commands.items c.as_slice-failures.result.now c.in_ok-failures.failures.items ms c.end_all.result (since ran new) y.left c.end_all.new.left
    (c.run_joined.ensures.aside.patient ∙ c.plan_all.ensures.patient) c.as_slice-failures.ensures.value c.end_all.ensures.ends in
    (c.end_all.new.left, fleet_ends s total ms x all (since old planned) plans apart (since planned ran) patience c.plan_all.ensures.patient y c.in_ok-failures.failures.items c.in_ok-failures.ensures.ran c.end_all.result (since ran new) (since old new) c.end_all.new.left cut ended)
