use Rattle.std.proofs.Common.{◌≡◌, ◌+◌, map, take, drop}
use Rattle.cc_fleet.specs.Fleet.{members_seen}
use Rattle.cc_command.specs.FleetWords.{bytes_of, groups_bad, member_of, span}
use Rattle.cc_command.proofs.fleet_words.read_members.Given as goal

-- the groups so far were good, and their members were read
abbrev pub invariant-loop-group : goal.invariant-loop-group
invariant-loop-group g l = record {
  rest : groups_bad l.place (bytes_of (drop l.group-index l.groups)) ≡ groups_bad 2 (bytes_of l.groups);
  seen : members_seen l.members.items ≡ map member_of (bytes_of (take l.group-index l.groups));
  reach : l.place + span (bytes_of (drop l.group-index l.groups)) ≡ 2 + span (bytes_of l.groups);
}
