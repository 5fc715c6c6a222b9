use Rattle.std.proofs.Common.{rules, ◌≡◌, ◌<◌, [], List, ℕ, length, take, get_or, Err, refl, ap, ◌∙◌, subst, sym, arith}
use Rattle.std.proofs.lemmas.Grind.{common_steps}
use Rattle.cc_host.specs.Part.{since, IsWhole}
use Rattle.cc_host.proofs.Parts.{since_extends}
use Rattle.cc_tool.proofs.Asides.{none_since}
use Rattle.cc_plan.specs.Asking.{Warned}
use Rattle.cc_plan.specs.Plan.{warning_steps, warned_steps}
use Rattle.cc_plan.proofs.LineLemmas.{since_none, childless_since}
use Rattle.cc_plan.proofs.WarnedLemmas.{warned_none, warned_next, warned_stop}
use Rattle.cc_plan.proofs.printing.warn_of.Goals as goal

pub loop-text-init : goal.loop-text-init
loop-text-init g c =
    let none = since_none (g.H.Host.log c.args.host.now) in
    rw none (record { extends = grind (arith, common_steps); whole = warned_none c.args.set.now c.args.listens; silent = refl; childless = refl; patient = refl })

pub returns-in_err-warn-clause-extends : goal.returns-in_err-warn-clause-extends
returns-in_err-warn-clause-extends g c = since_extends (g.H.Host.log c.args.host.now) (g.H.Host.log c.loop-text.host) (g.H.Host.log c.warn.new.host) c.loop-text.invariant.extends c.warn.ensures.extends

pub returns-in_err-warn-clause-warned : goal.returns-in_err-warn-clause-warned
returns-in_err-warn-clause-warned g c =
    let r : c.from_residual.result ≡ Err c.in_err-warn.field-0.0 = search rules in
    let within : c.loop-text.text-index < length c.args.texts.now = grind (arith, c.loop-text-test.true) in
    let before : IsWhole (warned_steps c.args.set.now c.args.listens (take c.loop-text.text-index c.args.texts.now)) (since (g.H.Host.log c.args.host.now) (g.H.Host.log c.loop-text.host)) =
    subst (λ (ts : List (List ℕ)). IsWhole (warned_steps c.args.set.now c.args.listens (take c.loop-text.text-index ts)) (since (g.H.Host.log c.args.host.now) (g.H.Host.log c.loop-text.host))) c.as_slice-text-items.ensures c.loop-text.invariant.whole in
    rw r (warned_stop c.args.set.now c.args.listens c.args.texts.now c.loop-text.text-index c.text-item.result within (grind (arith, c.text-item.is)) (Unit {0}) (g.H.Host.log c.args.host.now) (g.H.Host.log c.loop-text.host) (g.H.Host.log c.warn.new.host) c.in_err-warn.field-0.0 c.loop-text.invariant.extends c.warn.ensures.extends c.in_err-warn.ensures.refused before
    (subst (λ (t : List ℕ). Warned {X = Unit {0}} (warning_steps c.args.set.now.cargo_warnings c.args.listens t) (since (g.H.Host.log c.loop-text.host) (g.H.Host.log c.warn.new.host)) (Err c.in_err-warn.field-0.0)) c.as_str.ensures c.in_err-warn.ensures.warned))

pub returns-in_err-warn-clause-silent : goal.returns-in_err-warn-clause-silent
returns-in_err-warn-clause-silent g c =
    none_since (g.H.Host.log c.args.host.now) (g.H.Host.log c.loop-text.host) (g.H.Host.log c.warn.new.host) c.loop-text.invariant.extends c.warn.ensures.extends c.loop-text.invariant.silent c.warn.ensures.silent

pub returns-in_err-warn-clause-childless : goal.returns-in_err-warn-clause-childless
returns-in_err-warn-clause-childless g c =
    childless_since (g.H.Host.log c.args.host.now) (g.H.Host.log c.loop-text.host) (g.H.Host.log c.warn.new.host) c.loop-text.invariant.extends c.warn.ensures.extends c.loop-text.invariant.childless c.warn.ensures.childless

pub loop-text-preserved : goal.loop-text-preserved
loop-text-preserved g c =
    let within : c.loop-text.text-index < length c.args.texts.now = grind (arith, c.loop-text-test.true) in
    record {
      extends = since_extends (g.H.Host.log c.args.host.now) (g.H.Host.log c.loop-text.host) (g.H.Host.log c.warn.new.host) c.loop-text.invariant.extends c.warn.ensures.extends;
      whole = warned_next c.args.set.now c.args.listens c.as_slice-text-items.result.now c.loop-text.text-index c.text-item.result c.loop-text-test.true c.text-item.is (g.H.Host.log c.args.host.now) (g.H.Host.log c.loop-text.host) (g.H.Host.log c.warn.new.host) c.loop-text.invariant.extends c.warn.ensures.extends c.loop-text.invariant.whole
          (subst (λ (t : List ℕ). IsWhole (warning_steps c.args.set.now.cargo_warnings c.args.listens t) (since (g.H.Host.log c.loop-text.host) (g.H.Host.log c.warn.new.host))) c.as_str.ensures c.in_ok-warn.ensures.warned);
      silent = none_since (g.H.Host.log c.args.host.now) (g.H.Host.log c.loop-text.host) (g.H.Host.log c.warn.new.host) c.loop-text.invariant.extends c.warn.ensures.extends c.loop-text.invariant.silent c.warn.ensures.silent;
      childless = childless_since (g.H.Host.log c.args.host.now) (g.H.Host.log c.loop-text.host) (g.H.Host.log c.warn.new.host) c.loop-text.invariant.extends c.warn.ensures.extends c.loop-text.invariant.childless c.warn.ensures.childless;
      patient = c.warn.ensures.patient ∙ c.loop-text.invariant.patient;
    }
