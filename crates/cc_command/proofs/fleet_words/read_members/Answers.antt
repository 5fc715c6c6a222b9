use Rattle.std.proofs.Common.{◌≡◌, ◌+◌, length, map, arith, string_bytes, ap, ◌∙◌, ◌++◌, ◌∷◌, []}
use Rattle.std.proofs.lemmas.List.{length-map, map-append}
use Rattle.std.proofs.lemmas.Result.{err_from_is_err_and}
use Rattle.cc_fleet.specs.Fleet.{members_seen, member_seen}
use Rattle.cc_command.specs.FleetWords.{bytes_of, groups_bad, span}
use Rattle.cc_command.proofs.FleetWordLaws.{group_refused, group_fine, group_span, group_seen}
use Rattle.cc_command.proofs.fleet_words.read_members.Goals as goal

pub returns-in_err-member-clause-refused : goal.returns-in_err-member-clause-refused
returns-in_err-member-clause-refused g c =
    let p = err_from_is_err_and c.from_residual.result c.from_residual.ensures.1 in
    rw (p.1, p.2)
    (group_refused (λ group. map string_bytes group.now) c.args.groups.now c.loop-group.group-index c.loop-group.place c.group-item.result c.loop-group-test.true c.group-item.is (groups_bad 2 (bytes_of c.args.groups.now)) c.in_err-member.field-0.0 c.loop-group.invariant.rest c.in_err-member.ensures.refused)

pub loop-group-preserved : goal.loop-group-preserved
loop-group-preserved g c =
    let long : length (map string_bytes c.group-item.result.now) ≡ length c.group-item.result.now = length-map c.group-item.result.now string_bytes in
    record {
      rest = group_fine (λ group. map string_bytes group.now) c.args.groups.now c.loop-group.group-index c.loop-group.place c.group-item.result c.loop-group-test.true c.group-item.is (groups_bad 2 (bytes_of c.args.groups.now)) _ c.loop-group.invariant.rest c.in_ok-member.ensures.ok.0 (omega (arith, long));
      seen =
          ap members_seen c.in_ok-push_member.ensures ∙ map-append member_seen c.loop-group.members.items (c.in_ok-member.member ∷ [])
          ∙ group_seen (λ group. map string_bytes group.now) c.args.groups.now c.loop-group.group-index c.loop-group.place c.group-item.result c.loop-group-test.true c.group-item.is (members_seen c.loop-group.members.items) (member_seen c.in_ok-member.member) c.loop-group.invariant.seen c.in_ok-member.ensures.ok.1;
      reach = group_span (λ group. map string_bytes group.now) c.args.groups.now c.loop-group.group-index c.loop-group.place c.group-item.result c.loop-group-test.true c.group-item.is (2 + span (bytes_of c.args.groups.now)) _ c.loop-group.invariant.reach (omega (arith, long));
    }
