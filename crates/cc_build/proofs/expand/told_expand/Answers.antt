use Rattle.std.proofs.Common.{◌≡◌, inl, inr, ap, Bool, List, Ok, Err}
use Rattle.std.proofs.lemmas.Result.{err_from_is_err_and}
use Rattle.cc_host.specs.Part.{since}
use Rattle.cc_host.specs.Question.{answers}
use Rattle.cc_host.proofs.Parts.{since_extends}
use Rattle.cc_flags.specs.Given.{probe_folder}
use Rattle.cc_plan.specs.Questions.{NameAsks, PlanAsks}
use Rattle.cc_build.specs.Told.{expand_reads}
use Rattle.cc_build.proofs.ExpandLaws.{childless_since}
use Rattle.cc_build.proofs.PrintedLaws.{asked_whole, asked_refused}
use Rattle.cc_build.proofs.ToldLaws.{names_in_expand, told_asked, told_holds, does_told, refused_told}
use Rattle.cc_host.proofs.Parts.{since_since}
use Rattle.cc_build.proofs.expand.told_expand.Goals as goal

pub returns-in_err-output-clause-outcome : goal.returns-in_err-output-clause-outcome
returns-in_err-output-clause-outcome g c =
    let p = err_from_is_err_and c.from_residual.result c.from_residual.ensures.1 in
    let part = since (g.H.Host.log c.args.host.now) (g.H.Host.log c.expand_source.new.host) in
    let set = c.args.task.now.set.now in
    let env = c.args.task.now.env.now in
    let e = c.in_err-output.field-0.0 in
    rw (p.1, p.2) (record { under = λ look agree. inl (c.in_err-output.ensures.outcome.under look agree) })

pub returns-in_err-tell-clause-extends : goal.returns-in_err-tell-clause-extends
returns-in_err-tell-clause-extends g c = since_extends (g.H.Host.log c.args.host.now) (g.H.Host.log c.expand_source.new.host) (g.H.Host.log c.tell.new.host) c.expand_source.ensures.extends c.tell.ensures.asks.extends

pub returns-in_err-tell-clause-asked : goal.returns-in_err-tell-clause-asked
returns-in_err-tell-clause-asked g c =
    let old = g.H.Host.log c.args.host.now in
    let mid = g.H.Host.log c.expand_source.new.host in
    let new = g.H.Host.log c.tell.new.host in
    let set = c.args.task.now.set.now in
    let env = c.args.task.now.env.now in
    told_asked _ _ (probe_folder set env) (PlanAsks set env) (NameAsks expand_reads set env) (names_in_expand set env) old mid new c.expand_source.new.known c.tell.new.answers c.expand_source.ensures.extends c.tell.ensures.asks.extends c.expand_source.ensures.asked c.expand_source.ensures.answered c.tell.ensures.asks.asks

pub returns-in_err-tell-clause-childless : goal.returns-in_err-tell-clause-childless
returns-in_err-tell-clause-childless g c =
    let old = g.H.Host.log c.args.host.now in
    let mid = g.H.Host.log c.expand_source.new.host in
    let new = g.H.Host.log c.tell.new.host in
    let set = c.args.task.now.set.now in
    let env = c.args.task.now.env.now in
    childless_since old mid new c.expand_source.ensures.extends c.tell.ensures.asks.extends c.expand_source.ensures.childless c.tell.ensures.childless

pub returns-in_err-tell-clause-outcome : goal.returns-in_err-tell-clause-outcome
returns-in_err-tell-clause-outcome g c =
    let p = err_from_is_err_and c.from_residual-in_err-tell.result c.from_residual-in_err-tell.ensures.1 in
    let old = g.H.Host.log c.args.host.now in
    let mid = g.H.Host.log c.expand_source.new.host in
    let new = g.H.Host.log c.tell.new.host in
    let set = c.args.task.now.set.now in
    let env = c.args.task.now.env.now in
    rw (p.1, p.2)
    (told_holds _ _ (probe_folder set env) (PlanAsks set env) (NameAsks expand_reads set env) (names_in_expand set env) old mid new c.expand_source.new.known c.tell.new.answers c.expand_source.ensures.extends c.tell.ensures.asks.extends c.expand_source.ensures.asked c.expand_source.ensures.answered c.tell.ensures.asks.asks
    c.in_ok-output.ensures.outcome c.in_err-tell.ensures.told
    (λ look f h. inr (c.in_ok-output.output, record { expanding = since old mid; telling = since mid new; cut = since_since old mid new c.expand_source.ensures.extends c.tell.ensures.asks.extends; expands = f; told = h })))

pub returns-clause-extends : goal.returns-clause-extends
returns-clause-extends g c = since_extends (g.H.Host.log c.args.host.now) (g.H.Host.log c.expand_source.new.host) (g.H.Host.log c.tell.new.host) c.expand_source.ensures.extends c.tell.ensures.asks.extends

pub returns-clause-asked : goal.returns-clause-asked
returns-clause-asked g c =
    let old = g.H.Host.log c.args.host.now in
    let mid = g.H.Host.log c.expand_source.new.host in
    let new = g.H.Host.log c.tell.new.host in
    let set = c.args.task.now.set.now in
    let env = c.args.task.now.env.now in
    told_asked _ _ (probe_folder set env) (PlanAsks set env) (NameAsks expand_reads set env) (names_in_expand set env) old mid new c.expand_source.new.known c.tell.new.answers c.expand_source.ensures.extends c.tell.ensures.asks.extends c.expand_source.ensures.asked c.expand_source.ensures.answered c.tell.ensures.asks.asks

pub returns-clause-childless : goal.returns-clause-childless
returns-clause-childless g c =
    let old = g.H.Host.log c.args.host.now in
    let mid = g.H.Host.log c.expand_source.new.host in
    let new = g.H.Host.log c.tell.new.host in
    let set = c.args.task.now.set.now in
    let env = c.args.task.now.env.now in
    childless_since old mid new c.expand_source.ensures.extends c.tell.ensures.asks.extends c.expand_source.ensures.childless c.tell.ensures.childless

pub returns-clause-outcome : goal.returns-clause-outcome
returns-clause-outcome g c =
    let old = g.H.Host.log c.args.host.now in
    let mid = g.H.Host.log c.expand_source.new.host in
    let new = g.H.Host.log c.tell.new.host in
    let set = c.args.task.now.set.now in
    let env = c.args.task.now.env.now in
    told_holds _ _ (probe_folder set env) (PlanAsks set env) (NameAsks expand_reads set env) (names_in_expand set env) old mid new c.expand_source.new.known c.tell.new.answers c.expand_source.ensures.extends c.tell.ensures.asks.extends c.expand_source.ensures.asked c.expand_source.ensures.answered c.tell.ensures.asks.asks
    c.in_ok-output.ensures.outcome c.in_ok-tell.ensures.told
    (λ look f h. record { expanding = since old mid; telling = since mid new; cut = since_since old mid new c.expand_source.ensures.extends c.tell.ensures.asks.extends; expands = f; told = h })
