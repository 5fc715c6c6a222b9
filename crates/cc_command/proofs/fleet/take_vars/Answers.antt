use Rattle.std.proofs.Common.{◌≡◌, ◌++◌, ◌∙◌, ap, sym, map, length, take, drop, get_or, arith}
use Rattle.cc_command.proofs.FleetJobLaws.{with_listed, put_next, all_put}
use Rattle.cc_command.proofs.fleet.take_vars.Goals as goal

pub loop-member-preserved : goal.loop-member-preserved
loop-member-preserved g c =
    let all : length c.deref_mut-member-items.result.now ≡ length c.args.members.now.items = ap length c.deref_mut-member-items.ensures.value in
    put_next (with_listed c.args.vars.now) c.args.members.now.items c.loop-member.member-items c.loop-member.member-index c.member-item.result _ (omega (arith, all)) c.loop-member.invariant
    (ap (λ b. record { output = (get_or c.loop-member.member-items c.loop-member.member-index c.member-item.result).output; build = b }) c.in_ok-set_envs_snapshot.ensures.ok)

pub returns-clause-taken : goal.returns-clause-taken
returns-clause-taken g c =
    let all : length c.deref_mut-member-items.result.now ≡ length c.args.members.now.items = ap length c.deref_mut-member-items.ensures.value in
    all_put c.args.vars.now c.args.members.now.items c.loop-member.member-items c.loop-member.member-index c.args.members.now.len (omega (arith, all)) (sym c.deref_mut-member-items.ensures.len ∙ all)
    (c.loop-member.auto.member-items ∙ all) c.loop-member.invariant
