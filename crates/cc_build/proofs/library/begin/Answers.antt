use Rattle.std.proofs.Common.{◌∙◌, refl, sym}
use Rattle.std.proofs.lemmas.Result.{err_from_is_err_and}
use Rattle.cc_host.specs.Part.{since}
use Rattle.cc_plan.proofs.LineLemmas.{since_none}
use Rattle.cc_build.specs.Error.{no_memory}
use Rattle.cc_build.proofs.PhaseLaws.{begin_wanting, begins_one_form}
use Rattle.cc_build.proofs.library.begin.Goals as goal

pub returns-in_err-forms-clause-stopped : goal.returns-in_err-forms-clause-stopped
returns-in_err-forms-clause-stopped g c =
    let p = err_from_is_err_and c.from_residual.result c.from_residual.ensures.1 in
    let old = g.H.Host.log c.args.host.now in
    rw (p.1, p.2) (begin_wanting c.args.reporting.shows c.args.library.now c.args.here.now no_memory (since old old) (since_none old) refl)

pub returns-in_err-left-clause-stopped : goal.returns-in_err-left-clause-stopped
returns-in_err-left-clause-stopped g c =
    let p = err_from_is_err_and c.from_residual-in_err-left.result c.from_residual-in_err-left.ensures.1 in
    let old = g.H.Host.log c.args.host.now in
    rw (p.1, p.2) (begin_wanting c.args.reporting.shows c.args.library.now c.args.here.now no_memory (since old old) (since_none old) refl)

pub returns-then-has_one_form-clause-begun : goal.returns-then-has_one_form-clause-begun
returns-then-has_one_form-clause-begun g c =
    let old = g.H.Host.log c.args.host.now in
    begins_one_form c.args.reporting.shows c.args.library.now c.args.here.now c.in_ok-left.left.items c.in_ok-forms.forms.items (since old old) (sym c.has_one_form.ensures ∙ c.if-has_one_form.true) c.in_ok-forms.ensures c.in_ok-left.ensures (since_none old)
