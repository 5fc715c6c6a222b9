use Rattle.std.proofs.Common.{Err, ap, subst, sym, ◌∙◌}
use Rattle.std.proofs.lemmas.Result.{err_from_is_err_and}
use Rattle.cc_host.specs.Part.{since}
use Rattle.cc_host.specs.Question.{answers}
use Rattle.cc_plan.proofs.LineLemmas.{since_none}
use Rattle.cc_run.specs.declared.planned.Shows.{Shows}
use Rattle.cc_tool.specs.Asked.{question_events}
use Rattle.cc_tool.proofs.Asides.{asked_none, asked_before, aside_answers}
use Rattle.cc_build.specs.Build.{build_in}
use Rattle.cc_build.specs.Expand.{source_of, expansion, ignored_line, Gives}
use Rattle.cc_build.proofs.ExpandLaws.{unexpanded, no_tool, ran_tool, gives_shape, shape_childless, childless_since, answers_behind}
use Rattle.cc_build.proofs.expand.expand_source.Goals as goal

pub returns-in_err-check_expand-clause-outcome : goal.returns-in_err-check_expand-clause-outcome
returns-in_err-check_expand-clause-outcome g c =
    let old = g.H.Host.log c.args.host.now in
    let p = err_from_is_err_and c.from_residual.result c.from_residual.ensures.1 in
    let b = build_in c.args.task.now.set.now c.args.task.now.env.now in
    let e = c.in_err-check_expand.field-0.0 in
    rw (p.1, p.2) (unexpanded b (g.H.Host.listens c.args.host.now) (answers (since old old)) (since old old) e (since_none old) c.in_err-check_expand.ensures.refused)

pub returns-in_err-check_expand-clause-asked : goal.returns-in_err-check_expand-clause-asked
returns-in_err-check_expand-clause-asked g c =
    let old = g.H.Host.log c.args.host.now in
    asked_none _ _ _ _ (since old old) (ap question_events (since_none old))

pub returns-in_err-check_expand-clause-answered : goal.returns-in_err-check_expand-clause-answered
returns-in_err-check_expand-clause-answered g c = c.requires.fresh ∙ sym (ap answers (since_none (g.H.Host.log c.args.host.now)))

pub returns-in_err-tool-clause-outcome : goal.returns-in_err-tool-clause-outcome
returns-in_err-tool-clause-outcome g c =
    let part = since (g.H.Host.log c.args.host.now) (g.H.Host.log c.compiler.new.host) in
    let p = err_from_is_err_and c.from_residual-in_err-tool.result c.from_residual-in_err-tool.ensures.1 in
    let b = build_in c.args.task.now.set.now c.args.task.now.env.now in
    let e = c.in_err-tool.field-0.0 in
    rw (p.1, p.2) (no_tool b (g.H.Host.listens c.args.host.now) c.in_ok-check_expand.ensures.allowed part e c.in_err-tool.ensures.outcome)

pub returns-clause-answered : goal.returns-clause-answered
returns-clause-answered g c =
    answers_behind (g.H.Host.log c.args.host.now) (g.H.Host.log c.compiler.new.host) (g.H.Host.log c.expand_by.new.host) c.compiler.ensures.extends c.expand_by.ensures.aside.extends c.expand_by.ensures.aside.asks_none _ c.compiler.ensures.answered

pub returns-clause-outcome : goal.returns-clause-outcome
returns-clause-outcome g c =
    let old = g.H.Host.log c.args.host.now in
    let mid = g.H.Host.log c.compiler.new.host in
    let new = g.H.Host.log c.expand_by.new.host in
    let b = build_in c.args.task.now.set.now c.args.task.now.env.now in
    let tool = c.in_ok-tool.tool in
    ran_tool b (g.H.Host.listens c.args.host.now) c.in_ok-check_expand.ensures.allowed old mid new tool c.expand_by.result c.compiler.ensures.extends c.expand_by.ensures.aside.extends c.in_ok-tool.ensures.tool c.in_ok-tool.ensures.outcome
    (subst (λ (s : Shows). Gives s (expansion b.config tool) (ignored_line tool.family (source_of b.config)) c.expand_by.result (since mid new)) c.requires.shows c.expand_by.ensures.outcome)

pub returns-clause-asked : goal.returns-clause-asked
returns-clause-asked g c =
    asked_before _ _ _ _ (g.H.Host.log c.args.host.now) (g.H.Host.log c.compiler.new.host) (g.H.Host.log c.expand_by.new.host) c.compiler.ensures.extends c.expand_by.ensures.aside.extends c.compiler.ensures.asked c.expand_by.ensures.aside.asks_none

pub returns-clause-childless : goal.returns-clause-childless
returns-clause-childless g c =
    let old = g.H.Host.log c.args.host.now in
    let mid = g.H.Host.log c.compiler.new.host in
    let new = g.H.Host.log c.expand_by.new.host in
    let tool = c.in_ok-tool.tool in
    let set = c.args.task.now.set.now in
    childless_since old mid new c.compiler.ensures.extends c.expand_by.ensures.aside.extends c.compiler.ensures.childless
    (shape_childless (expansion set tool) (since mid new)
    (gives_shape c.args.task.now.reporting.shows (expansion set tool) (ignored_line tool.family (source_of set)) (since mid new) c.expand_by.result c.expand_by.ensures.outcome))
