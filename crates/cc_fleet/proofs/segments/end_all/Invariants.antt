use Rattle.std.proofs.Common.{◌≡◌, ◌++◌, None, take}
use Rattle.std.specs.List.{slice_index_or}
use Rattle.cc_host.specs.Call.{part}
use Rattle.cc_fleet.specs.Fleet.{EndsEach, members_seen, site}
use Rattle.cc_fleet.proofs.segments.end_all.Given as goal

-- the members so far have their ends
abbrev pub invariant-loop-place : goal.invariant-loop-place
invariant-loop-place g l = record {
  patient : g.H.Host.patience l.host ≡ g.H.Host.patience l.fn.host;
  extends : g.H.Host.log l.host ≡ g.H.Host.log l.fn.host ++ part g.H.Host.log l.fn.host l.host;
  each : EndsEach (site g.W.World.steady g.W.World.answer (g.H.Host.patience l.fn.host)) l.joined.commands.items (λ place. slice_index_or l.failures place None) 0 (members_seen (take l.place l.members)) l.ends (part g.H.Host.log l.fn.host l.host) l.fn.left l.left;
}
