use Rattle.std.proofs.Common.{◌≡◌, ℕ, List, [], ◌∷◌, Ok, ◌∙◌, sym, ap, ap₂, subst}
use Rattle.std.proofs.lemmas.Result.{err_from_is_err_and}
use Rattle.cc_host.specs.Part.{since}
use Rattle.cc_host.specs.Part.Step.{Removes}
use Rattle.cc_plan.specs.Libtool.{listed}
use Rattle.cc_build.specs.Course.{CallsEnd}
use Rattle.cc_build.specs.Stage.{writings}
use Rattle.cc_build.proofs.PhaseLaws.{ready_then, unready}
use Rattle.cc_build.proofs.library.make_ready.Goals as goal

pub returns-in_err-remove_library-clause-outcome : goal.returns-in_err-remove_library-clause-outcome
returns-in_err-remove_library-clause-outcome g c =
    let p = err_from_is_err_and c.from_residual.result c.from_residual.ensures.1 in
    rw (p.1, p.2)
    (unready (Removes c.args.path.now) (writings (listed c.args.list)) (since (g.H.Host.log c.args.host.now) (g.H.Host.log c.remove_library.new.host)) c.in_err-remove_library.field-0.0 c.in_err-remove_library.ensures.outcome)

pub returns-in-Some-clause-outcome : goal.returns-in-Some-clause-outcome
returns-in-Some-clause-outcome g c =
    let old = g.H.Host.log c.args.host.now in
    let mid = g.H.Host.log c.remove_library.new.host in
    let new = g.H.Host.log c.write_list.new.host in
    let are : listed c.args.list ≡ (c.as_str.result.now, c.as_slice.result.now) ∷ [] = ap listed c.in-Some.is ∙ ap₂ (λ p b. (p, b) ∷ []) (sym c.as_str.ensures) (sym c.as_slice.ensures) in
    ready_then (Removes c.args.path.now) (writings (listed c.args.list)) old mid new c.write_list.result c.remove_library.ensures.aside.extends c.write_list.ensures.aside.extends c.in_ok-remove_library.ensures.outcome
    (subst (λ (files : List (List ℕ × List ℕ)). CallsEnd (writings files) (since mid new) c.write_list.result) (sym are) c.write_list.ensures.outcome)

pub returns-in-None-clause-outcome : goal.returns-in-None-clause-outcome
returns-in-None-clause-outcome g c =
    subst (λ (files : List (List ℕ × List ℕ)). CallsEnd {T = Unit {0}} (Removes c.args.path.now ∷ writings files) (since (g.H.Host.log c.args.host.now) (g.H.Host.log c.remove_library.new.host)) (Ok tt)) (sym (ap listed c.in-None.is)) c.in_ok-remove_library.ensures.outcome
