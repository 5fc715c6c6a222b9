use Rattle.std.proofs.Common.{◌≡◌, inl, List, ℕ, [], None, refl, sym, subst}
use Rattle.std.proofs.lemmas.Result.{err_from_is_err_and}
use Rattle.cc_host.specs.Part.{since}
use Rattle.cc_build.specs.Error.{no_memory}
use Rattle.cc_build.specs.Outcome.{Outcome}
use Rattle.cc_build.specs.Told.{line_steps, name_steps}
use Rattle.cc_build.specs.Way.{all_firsts}
use Rattle.cc_build.proofs.ExpandLaws.{childless_since}
use Rattle.cc_build.proofs.Growing.{asking_before}
use Rattle.cc_build.proofs.Outcomes.{outcome_from}
use Rattle.cc_build.proofs.PrintedLaws.{asked_whole, asked_refused}
use Rattle.cc_build.proofs.reruns.tell.Goals as goal

pub returns-in_err-names-clause-childless : goal.returns-in_err-names-clause-childless
returns-in_err-names-clause-childless g c = (asked_whole (since (g.H.Host.log c.args.host.now) (g.H.Host.log c.read_names.new.host)) c.read_names.ensures.quiet).1

pub returns-in_err-names-clause-told : goal.returns-in_err-names-clause-told
returns-in_err-names-clause-told g c =
    let p = err_from_is_err_and c.from_residual.result c.from_residual.ensures.1 in
    let part = since (g.H.Host.log c.args.host.now) (g.H.Host.log c.read_names.new.host) in
    rw (p.1, p.2)
    (record { under = λ look agree. (all_firsts, ((λ h. refl), asked_refused None (name_steps c.args.reads c.args.task.now.set.now c.args.task.now.env.now all_firsts look) part no_memory c.read_names.ensures.quiet (inl refl))) })

pub returns-clause-asks : goal.returns-clause-asks
returns-clause-asks g c = asking_before _ _ _ _ g.H.Host.log g.H.Host.patience c.args.host.now c.read_names.new.host c.tell_names.new.host _ _ c.read_names.ensures.asks c.tell_names.ensures.aside

pub returns-clause-childless : goal.returns-clause-childless
returns-clause-childless g c =
    let old = g.H.Host.log c.args.host.now in
    let mid = g.H.Host.log c.read_names.new.host in
    let new = g.H.Host.log c.tell_names.new.host in
    childless_since old mid new c.read_names.ensures.asks.extends c.tell_names.ensures.aside.extends (asked_whole (since old mid) c.read_names.ensures.quiet).1 c.tell_names.ensures.childless

pub returns-clause-told : goal.returns-clause-told
returns-clause-told g c =
    let old = g.H.Host.log c.args.host.now in
    let mid = g.H.Host.log c.read_names.new.host in
    let new = g.H.Host.log c.tell_names.new.host in
    let told = c.tell_names.ensures.told in
    record {
      under = λ look agree.
          let steps = name_steps c.args.reads c.args.task.now.set.now c.args.task.now.env.now told.0 look in
          let so : Outcome None steps (since mid new) c.tell_names.result = subst (λ (n : List (List ℕ)). Outcome None (line_steps n told.0) (since mid new) c.tell_names.result) (sym (c.in_ok-names.ensures.planned.is look agree)) told.1.1 in
          (told.0, (told.1.0, outcome_from None old mid new [] steps c.tell_names.result c.read_names.ensures.asks.extends c.tell_names.ensures.aside.extends (asked_whole (since old mid) c.read_names.ensures.quiet).0 so));
    }
