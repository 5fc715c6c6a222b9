use Rattle.std.proofs.Common.{◌≡◌, inl, List, ℕ, None, Result, Ok, Err, refl, ap, subst}
use Rattle.std.specs.List.{list_all, list_any}
use Rattle.std.proofs.lemmas.Result.{err_from_is_err_and}
use Rattle.cc_flags.specs.declared.build_flags.BuildFlag.{BuildFlag}
use Rattle.cc_host.specs.Part.{since}
use Rattle.cc_plan.specs.Asking.{is_of_children}
use Rattle.cc_plan.proofs.LineLemmas.{since_none}
use Rattle.cc_tool.specs.Probing.{is_asked}
use Rattle.cc_build.specs.Error.{ErrorSeen, no_memory}
use Rattle.cc_build.specs.Flags.{flags_error, flags_read}
use Rattle.cc_build.specs.Outcome.{Outcome}
use Rattle.cc_build.specs.Told.{line_steps, unless_refused}
use Rattle.cc_build.specs.Way.{all_firsts}
use Rattle.cc_build.proofs.PrintedLaws.{asked_refused}
use Rattle.cc_build.proofs.ToldLaws.{names_when}
use Rattle.cc_build.proofs.environment.told_flags.Goals as goal

pub returns-in_err-flags-clause-childless : goal.returns-in_err-flags-clause-childless
returns-in_err-flags-clause-childless g c = ap (list_any is_of_children) (since_none (g.H.Host.log c.args.host.now))

pub returns-in_err-flags-clause-outcome : goal.returns-in_err-flags-clause-outcome
returns-in_err-flags-clause-outcome g c =
    let p = err_from_is_err_and c.from_residual.result c.from_residual.ensures.1 in
    let old = g.H.Host.log c.args.host.now in
    let set = c.args.task.now.set.now in
    let env = c.args.task.now.env.now in
    let refusal = flags_error set env c.args.name.now in
    rw (p.1, p.2)
    (all_firsts, ((λ h. refl), asked_refused refusal (unless_refused refusal (line_steps (flags_read set env c.args.name.now) all_firsts)) (since old old) c.in_err-flags.field-0.0 (ap (list_all is_asked) (since_none old)) c.in_err-flags.ensures.refused))

pub returns-in_err-names-clause-childless : goal.returns-in_err-names-clause-childless
returns-in_err-names-clause-childless g c = ap (list_any is_of_children) (since_none (g.H.Host.log c.args.host.now))

pub returns-in_err-names-clause-outcome : goal.returns-in_err-names-clause-outcome
returns-in_err-names-clause-outcome g c =
    let p = err_from_is_err_and c.from_residual-in_err-names.result c.from_residual-in_err-names.ensures.1 in
    let old = g.H.Host.log c.args.host.now in
    let set = c.args.task.now.set.now in
    let env = c.args.task.now.env.now in
    let refusal = flags_error set env c.args.name.now in
    rw (p.1, p.2)
    (all_firsts, ((λ h. refl), asked_refused refusal (unless_refused refusal (line_steps (flags_read set env c.args.name.now) all_firsts)) (since old old) no_memory (ap (list_all is_asked) (since_none old)) (inl refl)))

pub returns-in_err-tell_names-clause-outcome : goal.returns-in_err-tell_names-clause-outcome
returns-in_err-tell_names-clause-outcome g c =
    let p = err_from_is_err_and c.from_residual-in_err-tell_names.result c.from_residual-in_err-tell_names.ensures.1 in
    let part = since (g.H.Host.log c.args.host.now) (g.H.Host.log c.tell_names.new.host) in
    let set = c.args.task.now.set.now in
    let env = c.args.task.now.env.now in
    let refusal = flags_error set env c.args.name.now in
    let told = c.in_err-tell_names.ensures.told in
    let e = c.in_err-tell_names.field-0.0 in
    let lines : Outcome {T = List BuildFlag} None (line_steps (flags_read set env c.args.name.now) told.0) part (Err e) =
    subst (λ (n : List (List ℕ)). Outcome {T = List BuildFlag} None (line_steps n told.0) part (Err e)) c.in_ok-names.ensures told.1.1 in
    rw (p.1, p.2)
    (told.0, (told.1.0, names_when {T = List BuildFlag} refusal (line_steps (flags_read set env c.args.name.now) told.0) part (Err e) c.in_ok-flags.ensures.allowed lines))

pub returns-clause-outcome : goal.returns-clause-outcome
returns-clause-outcome g c =
    let part = since (g.H.Host.log c.args.host.now) (g.H.Host.log c.tell_names.new.host) in
    let set = c.args.task.now.set.now in
    let env = c.args.task.now.env.now in
    let refusal = flags_error set env c.args.name.now in
    let told = c.in_ok-tell_names.ensures.told in
    let ok : Result (List BuildFlag) ErrorSeen = Ok c.in_ok-flags.flags in
    let lines : Outcome {T = List BuildFlag} None (line_steps (flags_read set env c.args.name.now) told.0) part ok =
    subst (λ (n : List (List ℕ)). Outcome {T = List BuildFlag} None (line_steps n told.0) part ok) c.in_ok-names.ensures told.1.1 in
    (told.0, (told.1.0, names_when {T = List BuildFlag} refusal (line_steps (flags_read set env c.args.name.now) told.0) part ok c.in_ok-flags.ensures.allowed lines))
