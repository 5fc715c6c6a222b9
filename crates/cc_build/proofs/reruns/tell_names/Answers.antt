use Rattle.std.proofs.Common.{◌≡◌, inl, List, ℕ, None, refl, ◌∙◌, ap, subst}
use Rattle.std.specs.List.{list_all, list_any}
use Rattle.std.proofs.lemmas.Result.{err_from_is_err_and}
use Rattle.cc_host.specs.Part.{since}
use Rattle.cc_plan.specs.Asking.{is_of_children}
use Rattle.cc_plan.proofs.LineLemmas.{since_none}
use Rattle.cc_tool.specs.Probing.{is_asked}
use Rattle.cc_build.specs.Error.{no_memory}
use Rattle.cc_build.specs.Outcome.{Outcome}
use Rattle.cc_build.specs.Seen.{stages_seen}
use Rattle.cc_build.specs.Told.{line_steps}
use Rattle.cc_build.specs.Way.{all_firsts}
use Rattle.cc_build.proofs.PrintedLaws.{asked_refused}
use Rattle.cc_build.proofs.ToldLaws.{told_lines}
use Rattle.cc_build.proofs.reruns.tell_names.Goals as goal

pub returns-in_err-stages-clause-childless : goal.returns-in_err-stages-clause-childless
returns-in_err-stages-clause-childless g c = ap (list_any is_of_children) (since_none (g.H.Host.log c.args.host.now))

pub returns-in_err-stages-clause-told : goal.returns-in_err-stages-clause-told
returns-in_err-stages-clause-told g c =
    let p = err_from_is_err_and c.from_residual.result c.from_residual.ensures.1 in
    let old = g.H.Host.log c.args.host.now in
    rw (p.1, p.2)
    (all_firsts, ((λ h. refl), asked_refused None (line_steps c.args.names all_firsts) (since old old) no_memory (ap (list_all is_asked) (since_none old)) (inl refl)))

pub returns-clause-childless : goal.returns-clause-childless
returns-clause-childless g c =
    let part = since (g.H.Host.log c.args.host.now) (g.H.Host.log c.do_stages.new.host) in
    let printed = c.in_ok-stages.ensures in
    (told_lines _ _ _ printed.0 _ _ (stages_seen c.deref.result.now) part c.do_stages.result _ _ (ap stages_seen c.deref.ensures.value ∙ printed.1.1) c.names_alone-lines.ensures.warnings c.names_alone-lines.ensures.links c.do_stages.ensures.outcome).1

pub returns-clause-told : goal.returns-clause-told
returns-clause-told g c =
    let part = since (g.H.Host.log c.args.host.now) (g.H.Host.log c.do_stages.new.host) in
    let printed = c.in_ok-stages.ensures in
    let lines = told_lines _ _ _ printed.0 _ _ (stages_seen c.deref.result.now) part c.do_stages.result _ _ (ap stages_seen c.deref.ensures.value ∙ printed.1.1) c.names_alone-lines.ensures.warnings c.names_alone-lines.ensures.links c.do_stages.ensures.outcome in
    (printed.0, (printed.1.0, subst (λ (n : List (List ℕ)). Outcome None (line_steps n printed.0) part c.do_stages.result) c.names_alone-lines.ensures.names lines.0))
