use Rattle.std.proofs.Common.{◌<◌, ◌+◌, ◌∙◌, ℕ, List, length, take, None, Ok, Err, subst, sym, arith}
use Rattle.std.specs.List.{slice_index_or}
use Rattle.std.proofs.lemmas.Result.{err_from_is_err_and}
use Rattle.cc_host.specs.Part.{since}
use Rattle.cc_fleet.specs.Fleet.{EndsEach, member_seen, members_seen, objects_at, site}
use Rattle.cc_fleet.specs.declared.members.FleetEnd.{FleetEnd}
use Rattle.cc_fleet.proofs.EndLemmas.{ended_so, ends_next, ends_refused, ends_wanting}
use Rattle.cc_fleet.proofs.JoinLemmas.{extends_both}
use Rattle.cc_fleet.proofs.MemberLemmas.{at_its_place}
use Rattle.cc_fleet.proofs.segments.end_all.Goals as goal

pub end_member-requires-clause-objects : goal.end_member-requires-clause-objects
end_member-requires-clause-objects g c =
    let members = c.args.members.now in
    let within : c.loop-place.place < length members = omega arith in
    λ κs lives. at_its_place members c.loop-place.place c.index-members-place.result within c.index-members-place.is objects_at c.args.joined.now.objects.items c.index.result.now c.requires.objects c.index.ensures

pub returns-in_err-end_member-clause-ends : goal.returns-in_err-end_member-clause-ends
returns-in_err-end_member-clause-ends g c =
    let s = site g.W.World.steady g.W.World.answer (g.H.Host.patience c.args.host.now) in
    let cmds = c.args.joined.now.commands.items in
    let failure = λ (place : ℕ). slice_index_or c.args.failures.now place None in
    let members = c.args.members.now in
    let i = c.loop-place.place in
    let m = c.index-members-place.result in
    let old = g.H.Host.log c.args.host.now in
    let mid = g.H.Host.log c.loop-place.host in
    let new = g.H.Host.log c.end_member.new.host in
    let within : i < length members = omega arith in
    let first = c.loop-place.invariant.extends in
    let second = c.end_member.ensures.extends in
    let given = c.args.left.now in
    let middle = c.loop-place.left in
    let left = c.end_member.new.left in
    let p0 = g.H.Host.patience c.loop-place.host in
    let q0 = g.H.Host.patience c.args.host.now in
    let p = err_from_is_err_and c.from_residual.result c.from_residual.ensures.1 in
    let e = c.in_err-end_member.field-0.0 in
    rw (p.1, p.2)
    (ends_refused s cmds failure members i m old mid new within c.index-members-place.is first second c.loop-place.ends given middle left c.loop-place.invariant.each e
    (ended_so g.W.World.steady g.W.World.answer p0 q0 c.deref.result.now cmds (member_seen m) (failure i) (Err e) (since mid new) middle left c.loop-place.invariant.patient c.deref.ensures.value c.in_err-end_member.ensures.ends))

pub returns-in_err-push-clause-ends : goal.returns-in_err-push-clause-ends
returns-in_err-push-clause-ends g c =
    let s = site g.W.World.steady g.W.World.answer (g.H.Host.patience c.args.host.now) in
    let cmds = c.args.joined.now.commands.items in
    let failure = λ (place : ℕ). slice_index_or c.args.failures.now place None in
    let members = c.args.members.now in
    let i = c.loop-place.place in
    let m = c.index-members-place.result in
    let old = g.H.Host.log c.args.host.now in
    let mid = g.H.Host.log c.loop-place.host in
    let new = g.H.Host.log c.end_member.new.host in
    let within : i < length members = omega arith in
    let first = c.loop-place.invariant.extends in
    let second = c.end_member.ensures.extends in
    let given = c.args.left.now in
    let middle = c.loop-place.left in
    let left = c.end_member.new.left in
    let p0 = g.H.Host.patience c.loop-place.host in
    let q0 = g.H.Host.patience c.args.host.now in
    let p = err_from_is_err_and c.from_residual-in_err-push.result c.from_residual-in_err-push.ensures.1 in
    let end = c.in_ok-end_member.field-0 in
    rw (p.1, p.2)
    (ends_wanting s cmds failure members i m old mid new within c.index-members-place.is first second c.loop-place.ends given middle left c.loop-place.invariant.each end
    (ended_so g.W.World.steady g.W.World.answer p0 q0 c.deref.result.now cmds (member_seen m) (failure i) (Ok end) (since mid new) middle left c.loop-place.invariant.patient c.deref.ensures.value c.in_ok-end_member.ensures.ends))

pub loop-place-preserved : goal.loop-place-preserved
loop-place-preserved g c =
    let s = site g.W.World.steady g.W.World.answer (g.H.Host.patience c.args.host.now) in
    let cmds = c.args.joined.now.commands.items in
    let failure = λ (place : ℕ). slice_index_or c.args.failures.now place None in
    let members = c.args.members.now in
    let i = c.loop-place.place in
    let m = c.index-members-place.result in
    let old = g.H.Host.log c.args.host.now in
    let mid = g.H.Host.log c.loop-place.host in
    let new = g.H.Host.log c.end_member.new.host in
    let within : i < length members = omega arith in
    let first = c.loop-place.invariant.extends in
    let second = c.end_member.ensures.extends in
    let given = c.args.left.now in
    let middle = c.loop-place.left in
    let left = c.end_member.new.left in
    let p0 = g.H.Host.patience c.loop-place.host in
    let q0 = g.H.Host.patience c.args.host.now in
    let end = c.in_ok-end_member.field-0 in
    record {
      patient = c.end_member.ensures.patient ∙ c.loop-place.invariant.patient;
      extends = extends_both old mid new first second;
      each =
          subst (λ (ends : List FleetEnd). EndsEach s cmds failure 0 (members_seen (take (i + 1) members)) ends (since old new) given left) (sym c.in_ok-push.ensures.ok)
          (ends_next s cmds failure members i m old mid new within c.index-members-place.is first second c.loop-place.ends given middle left c.loop-place.invariant.each end
          (ended_so g.W.World.steady g.W.World.answer p0 q0 c.deref.result.now cmds (member_seen m) (failure i) (Ok end) (since mid new) middle left c.loop-place.invariant.patient c.deref.ensures.value c.in_ok-end_member.ensures.ends));
    }
