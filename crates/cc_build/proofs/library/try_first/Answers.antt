use Rattle.std.proofs.Common.{◌∙◌, false, refl}
use Rattle.std.proofs.lemmas.Result.{err_from_is_err_and}
use Rattle.cc_host.specs.Part.{since}
use Rattle.cc_plan.proofs.LineLemmas.{since_none}
use Rattle.cc_build.specs.Error.{no_memory}
use Rattle.cc_build.specs.Seen.{commands_for}
use Rattle.cc_build.specs.Way.{writing_of}
use Rattle.cc_build.proofs.PhaseLaws.{begin_wanting, first_command, begin_untried, begin_stopped, begins_none, begins_tried}
use Rattle.cc_build.proofs.library.try_first.Goals as goal

pub returns-in_err-left-clause-stopped : goal.returns-in_err-left-clause-stopped
returns-in_err-left-clause-stopped g c =
    let p = err_from_is_err_and c.from_residual.result c.from_residual.ensures.1 in
    let old = g.H.Host.log c.args.host.now in
    rw (p.1, p.2) (begin_wanting c.args.reporting.shows c.args.library.now c.args.here.now no_memory (since old old) (since_none old) refl)

pub returns-in_err-is_plain-clause-stopped : goal.returns-in_err-is_plain-clause-stopped
returns-in_err-is_plain-clause-stopped g c =
    let p = err_from_is_err_and c.from_residual-in_err-is_plain.result c.from_residual-in_err-is_plain.ensures.1 in
    let library = c.args.library.now in
    let f = first_command c.deref.result.now (commands_for library (writing_of false c.args.here.now)) c.in-Some.first.now c.in-Some.ensures.value (c.deref.ensures.value ∙ c.requires.forms) in
    rw (p.1, p.2)
    (begin_untried c.args.reporting.shows library c.args.here.now c.requires.form c.in-Some.first.now f.0 f.1 (since (g.H.Host.log c.args.host.now) (g.H.Host.log c.try_form.new.host)) c.in_err-is_plain.field-0.0 c.in_err-is_plain.ensures.outcome)

pub returns-in_err-left-2-clause-stopped : goal.returns-in_err-left-2-clause-stopped
returns-in_err-left-2-clause-stopped g c =
    let p = err_from_is_err_and c.from_residual-in_err-left-2.result c.from_residual-in_err-left-2.ensures.1 in
    let library = c.args.library.now in
    let f = first_command c.deref.result.now (commands_for library (writing_of false c.args.here.now)) c.in-Some.first.now c.in-Some.ensures.value (c.deref.ensures.value ∙ c.requires.forms) in
    rw (p.1, p.2)
    (begin_stopped c.args.reporting.shows library c.args.here.now c.requires.form c.in-Some.first.now f.0 f.1 (since (g.H.Host.log c.args.host.now) (g.H.Host.log c.try_form.new.host)) c.in_ok-is_plain.is_plain c.in_ok-is_plain.ensures.outcome no_memory refl)

pub returns-clause-begun : goal.returns-clause-begun
returns-clause-begun g c =
    let library = c.args.library.now in
    let f = first_command c.deref.result.now (commands_for library (writing_of false c.args.here.now)) c.in-Some.first.now c.in-Some.ensures.value (c.deref.ensures.value ∙ c.requires.forms) in
    begins_tried c.args.reporting.shows library c.args.here.now c.requires.form c.in-Some.first.now f.0 f.1 (since (g.H.Host.log c.args.host.now) (g.H.Host.log c.try_form.new.host)) c.in_ok-is_plain.is_plain c.in_ok-is_plain.ensures.outcome c.in_ok-left-2.left.items c.in_ok-left-2.ensures
