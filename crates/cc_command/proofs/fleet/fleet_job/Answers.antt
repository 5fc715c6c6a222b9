use Rattle.std.proofs.Common.{[], sym, refl, map, append-nil, string_bytes}
use Rattle.cc_build.proofs.Going.{part_is}
use Rattle.cc_command.specs.Call.{call_of}
use Rattle.cc_command.specs.FleetWords.{read_fleet}
use Rattle.cc_command.proofs.ServedLaws.{unread_answered}
use Rattle.cc_command.proofs.fleet.fleet_job.Goals as goal

pub returns-in-Err-NoMemory-clause-answered : goal.returns-in-Err-NoMemory-clause-answered
returns-in-Err-NoMemory-clause-answered g c =
    let log = g.H.Host.log c.args.host.now in
    unread_answered (call_of g.H.Host.log g.H.Host.patience g.H.Host.listens g.W.World.steady g.W.World.answer g.J.Jobs.total g.J.Jobs.faults g.J.Jobs.taken g.J.Jobs.load c.args.invocation.turns c.args.host.now c.args.host.now c.args.seat.now c.args.seat.now)
    (read_fleet (map string_bytes c.args.invocation.words.now)) c.ended_wanting.result (part_is log log [] (sym (append-nil log))) refl c.ended_wanting.ensures
