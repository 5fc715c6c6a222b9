use Rattle.std.proofs.Common.{◌<◌, ◌∷◌, ◌++◌, [], ◌∙◌, length, Ok, Err, arith}
use Rattle.std.proofs.lemmas.Result.{err_from_is_err_and}
use Rattle.cc_host.specs.Part.{since}
use Rattle.cc_fleet.specs.Fleet.{member_seen, site}
use Rattle.cc_fleet.proofs.JoinLemmas.{gathers_more, planned_so, extends_both, plans_next, plans_refused, plans_wanting}
use Rattle.cc_fleet.proofs.plans.plan_all.Goals as goal

pub returns-in_err-plan-clause-plans : goal.returns-in_err-plan-clause-plans
returns-in_err-plan-clause-plans g c =
    let s = site g.W.World.steady g.W.World.answer (g.H.Host.patience c.args.host.now) in
    let members = c.args.members.now in
    let i = c.loop-member.member-index in
    let m = c.member-item.result in
    let old = g.H.Host.log c.args.host.now in
    let mid = g.H.Host.log c.loop-member.host in
    let new = g.H.Host.log c.try_plan_compile.new.host in
    let within : i < length members = omega arith in
    let first = c.loop-member.invariant.extends in
    let second = c.try_plan_compile.ensures.extends in
    let p = err_from_is_err_and c.from_residual.result c.from_residual.ensures.1 in
    let e = c.in_err-plan.field-0.0 in
    rw (p.1, p.2)
    (plans_refused s members i m old mid new within c.member-item.is first second c.loop-member.invariant.plans e c.loop-member.invariant.each
    (planned_so s (member_seen m) (g.H.Host.listens c.loop-member.host) c.as_str.result.now (Err e) (since mid new) c.as_str.ensures c.try_plan_compile.ensures.asked c.in_err-plan.ensures.outcome))

pub returns-in_err-add_plan-clause-plans : goal.returns-in_err-add_plan-clause-plans
returns-in_err-add_plan-clause-plans g c =
    let s = site g.W.World.steady g.W.World.answer (g.H.Host.patience c.args.host.now) in
    let members = c.args.members.now in
    let i = c.loop-member.member-index in
    let m = c.member-item.result in
    let old = g.H.Host.log c.args.host.now in
    let mid = g.H.Host.log c.loop-member.host in
    let new = g.H.Host.log c.try_plan_compile.new.host in
    let within : i < length members = omega arith in
    let first = c.loop-member.invariant.extends in
    let second = c.try_plan_compile.ensures.extends in
    let p = err_from_is_err_and c.from_residual-in_err-add_plan.result c.from_residual-in_err-add_plan.ensures.1 in
    let plan = c.in_ok-plan.plan in
    rw (p.1, p.2)
    (plans_wanting s members i m old mid new within c.member-item.is first second c.loop-member.invariant.plans plan c.loop-member.invariant.each
    (planned_so s (member_seen m) (g.H.Host.listens c.loop-member.host) c.as_str.result.now (Ok plan) (since mid new) c.as_str.ensures c.try_plan_compile.ensures.asked c.in_ok-plan.ensures.outcome))

pub loop-member-preserved : goal.loop-member-preserved
loop-member-preserved g c =
    let s = site g.W.World.steady g.W.World.answer (g.H.Host.patience c.args.host.now) in
    let members = c.args.members.now in
    let i = c.loop-member.member-index in
    let m = c.member-item.result in
    let old = g.H.Host.log c.args.host.now in
    let mid = g.H.Host.log c.loop-member.host in
    let new = g.H.Host.log c.try_plan_compile.new.host in
    let within : i < length members = omega arith in
    let first = c.loop-member.invariant.extends in
    let second = c.try_plan_compile.ensures.extends in
    let plans = c.loop-member.invariant.plans in
    let plan = c.in_ok-plan.plan in
    record {
      patient = c.try_plan_compile.ensures.patient ∙ c.loop-member.invariant.patient;
      extends = extends_both old mid new first second;
      plans = plans ++ plan ∷ [];
      gathers = gathers_more c.loop-member.joined c.add_plan.new.joined plans plan c.loop-member.invariant.gathers c.in_ok-add_plan.ensures;
      each =
          plans_next s members i m old mid new within c.member-item.is first second plans plan c.loop-member.invariant.each
          (planned_so s (member_seen m) (g.H.Host.listens c.loop-member.host) c.as_str.result.now (Ok plan) (since mid new) c.as_str.ensures c.try_plan_compile.ensures.asked c.in_ok-plan.ensures.outcome);
    }
