use Rattle.std.proofs.Common.{◌∙◌, ap, refl}
use Rattle.std.proofs.lemmas.Result.{err_from_is_err_and}
use Rattle.cc_host.specs.Part.{since}
use Rattle.cc_plan.proofs.LineLemmas.{since_none}
use Rattle.cc_build.specs.Error.{no_memory}
use Rattle.cc_build.specs.Seen.{stages_seen}
use Rattle.cc_build.proofs.OpeningLaws.{seen_warned, open_wanting, open_unwarned, open_ends}
use Rattle.cc_build.proofs.compiles.open.Goals as goal

pub returns-in_err-stages-clause-outcome : goal.returns-in_err-stages-clause-outcome
returns-in_err-stages-clause-outcome g c =
    let p = err_from_is_err_and c.from_residual.result c.from_residual.ensures.1 in
    let old = g.H.Host.log c.args.host.now in
    rw (p.1, p.2) (open_wanting c.args.task.now c.args.texts.now (since old old) no_memory (since_none old) refl)

pub returns-in_err-do_stages-clause-outcome : goal.returns-in_err-do_stages-clause-outcome
returns-in_err-do_stages-clause-outcome g c =
    let p = err_from_is_err_and c.from_residual-in_err-do_stages.result c.from_residual-in_err-do_stages.ensures.1 in
    let task = c.args.task.now in
    let texts = c.args.texts.now in
    let part = since (g.H.Host.log c.args.host.now) (g.H.Host.log c.do_stages.new.host) in
    rw (p.1, p.2)
    (open_unwarned task texts _ (stages_seen c.deref.result.now) part c.in_err-do_stages.field-0.0 _ _
    (ap stages_seen c.deref.ensures.value ∙ c.in_ok-stages.ensures ∙ seen_warned task.set.now task.reporting.shows.listens texts) c.in_err-do_stages.ensures.outcome)

pub returns-clause-outcome : goal.returns-clause-outcome
returns-clause-outcome g c =
    let task = c.args.task.now in
    let texts = c.args.texts.now in
    let old = g.H.Host.log c.args.host.now in
    let mid = g.H.Host.log c.do_stages.new.host in
    let new = g.H.Host.log c.find_here.new.host in
    open_ends task texts _ (stages_seen c.deref.result.now) old mid new _ _
    (ap stages_seen c.deref.ensures.value ∙ c.in_ok-stages.ensures ∙ seen_warned task.set.now task.reporting.shows.listens texts) c.do_stages.ensures.aside.extends c.find_here.ensures.aside.extends c.in_ok-do_stages.ensures.outcome.1 c.find_here.result c.find_here.ensures.outcome
