use Rattle.std.proofs.Common.{◌≡◌, inl, inr, ap, Bool, List, Ok, Err}
use Rattle.std.proofs.lemmas.Result.{err_from_is_err_and}
use Rattle.cc_host.specs.Part.{since}
use Rattle.cc_host.specs.Question.{answers}
use Rattle.cc_host.proofs.Parts.{since_extends}
use Rattle.cc_flags.specs.Given.{probe_folder}
use Rattle.cc_plan.specs.Questions.{NameAsks, RanlibAsks}
use Rattle.cc_build.specs.Told.{ranlib_reads}
use Rattle.cc_build.proofs.ExpandLaws.{childless_since}
use Rattle.cc_build.proofs.PrintedLaws.{asked_whole, asked_refused}
use Rattle.cc_build.proofs.ToldLaws.{names_in_ranlib, told_asked, told_holds, does_told, refused_told}
use Rattle.std.specs.Option.{option_map}
use Rattle.std.proofs.Common.{[]}
use Rattle.cc_host.specs.Command.{CommandSeen}
use Rattle.cc_build.specs.Refusal.{plan_error}
use Rattle.cc_build.specs.Tools.{ranlib_error}
use Rattle.cc_build.proofs.tools.told_ranlib.Goals as goal

pub returns-in_err-cmd-clause-outcome : goal.returns-in_err-cmd-clause-outcome
returns-in_err-cmd-clause-outcome g c =
    let p = err_from_is_err_and c.from_residual.result c.from_residual.ensures.1 in
    let part = since (g.H.Host.log c.args.host.now) (g.H.Host.log c.ranlib.new.host) in
    let set = c.args.task.now.set.now in
    let env = c.args.task.now.env.now in
    let e = c.in_err-cmd.field-0.0 in
    rw (p.1, p.2) (record { under = λ look agree. refused_told ranlib_reads set env look (ranlib_error set env look) [] CommandSeen e part (asked_refused (ranlib_error set env look) [] part e c.ranlib.ensures.quiet (c.in_err-cmd.ensures.refused.under look agree)) })

pub returns-in_err-cmd-clause-childless : goal.returns-in_err-cmd-clause-childless
returns-in_err-cmd-clause-childless g c = (asked_whole (since (g.H.Host.log c.args.host.now) (g.H.Host.log c.ranlib.new.host)) c.ranlib.ensures.quiet).1

pub returns-in_err-tell-clause-extends : goal.returns-in_err-tell-clause-extends
returns-in_err-tell-clause-extends g c = since_extends (g.H.Host.log c.args.host.now) (g.H.Host.log c.ranlib.new.host) (g.H.Host.log c.tell.new.host) c.ranlib.ensures.extends c.tell.ensures.asks.extends

pub returns-in_err-tell-clause-asked : goal.returns-in_err-tell-clause-asked
returns-in_err-tell-clause-asked g c =
    let old = g.H.Host.log c.args.host.now in
    let mid = g.H.Host.log c.ranlib.new.host in
    let new = g.H.Host.log c.tell.new.host in
    let set = c.args.task.now.set.now in
    let env = c.args.task.now.env.now in
    told_asked _ _ (probe_folder set env) (RanlibAsks set env) (NameAsks ranlib_reads set env) (names_in_ranlib set env) old mid new c.ranlib.new.known c.tell.new.answers c.ranlib.ensures.extends c.tell.ensures.asks.extends c.ranlib.ensures.asked c.ranlib.ensures.answered c.tell.ensures.asks.asks

pub returns-in_err-tell-clause-childless : goal.returns-in_err-tell-clause-childless
returns-in_err-tell-clause-childless g c =
    let old = g.H.Host.log c.args.host.now in
    let mid = g.H.Host.log c.ranlib.new.host in
    let new = g.H.Host.log c.tell.new.host in
    let set = c.args.task.now.set.now in
    let env = c.args.task.now.env.now in
    childless_since old mid new c.ranlib.ensures.extends c.tell.ensures.asks.extends (asked_whole (since old mid) c.ranlib.ensures.quiet).1 c.tell.ensures.childless

pub returns-in_err-tell-clause-outcome : goal.returns-in_err-tell-clause-outcome
returns-in_err-tell-clause-outcome g c =
    let p = err_from_is_err_and c.from_residual-in_err-tell.result c.from_residual-in_err-tell.ensures.1 in
    let old = g.H.Host.log c.args.host.now in
    let mid = g.H.Host.log c.ranlib.new.host in
    let new = g.H.Host.log c.tell.new.host in
    let set = c.args.task.now.set.now in
    let env = c.args.task.now.env.now in
    rw (p.1, p.2)
    (told_holds _ _ (probe_folder set env) (RanlibAsks set env) (NameAsks ranlib_reads set env) (names_in_ranlib set env) old mid new c.ranlib.new.known c.tell.new.answers c.ranlib.ensures.extends c.tell.ensures.asks.extends c.ranlib.ensures.asked c.ranlib.ensures.answered c.tell.ensures.asks.asks
    c.in_ok-cmd.ensures.ranlib c.in_err-tell.ensures.told
    (λ look f h. does_told ranlib_reads set env look (ranlib_error set env look) [] {T = CommandSeen} c.in_ok-cmd.cmd (Err c.in_err-tell.field-0.0) old mid new c.ranlib.ensures.extends c.tell.ensures.asks.extends (ap (option_map (plan_error set env [])) f.allowed, (asked_whole (since old mid) c.ranlib.ensures.quiet).0) h))

pub returns-clause-extends : goal.returns-clause-extends
returns-clause-extends g c = since_extends (g.H.Host.log c.args.host.now) (g.H.Host.log c.ranlib.new.host) (g.H.Host.log c.tell.new.host) c.ranlib.ensures.extends c.tell.ensures.asks.extends

pub returns-clause-asked : goal.returns-clause-asked
returns-clause-asked g c =
    let old = g.H.Host.log c.args.host.now in
    let mid = g.H.Host.log c.ranlib.new.host in
    let new = g.H.Host.log c.tell.new.host in
    let set = c.args.task.now.set.now in
    let env = c.args.task.now.env.now in
    told_asked _ _ (probe_folder set env) (RanlibAsks set env) (NameAsks ranlib_reads set env) (names_in_ranlib set env) old mid new c.ranlib.new.known c.tell.new.answers c.ranlib.ensures.extends c.tell.ensures.asks.extends c.ranlib.ensures.asked c.ranlib.ensures.answered c.tell.ensures.asks.asks

pub returns-clause-childless : goal.returns-clause-childless
returns-clause-childless g c =
    let old = g.H.Host.log c.args.host.now in
    let mid = g.H.Host.log c.ranlib.new.host in
    let new = g.H.Host.log c.tell.new.host in
    let set = c.args.task.now.set.now in
    let env = c.args.task.now.env.now in
    childless_since old mid new c.ranlib.ensures.extends c.tell.ensures.asks.extends (asked_whole (since old mid) c.ranlib.ensures.quiet).1 c.tell.ensures.childless

pub returns-clause-outcome : goal.returns-clause-outcome
returns-clause-outcome g c =
    let old = g.H.Host.log c.args.host.now in
    let mid = g.H.Host.log c.ranlib.new.host in
    let new = g.H.Host.log c.tell.new.host in
    let set = c.args.task.now.set.now in
    let env = c.args.task.now.env.now in
    told_holds _ _ (probe_folder set env) (RanlibAsks set env) (NameAsks ranlib_reads set env) (names_in_ranlib set env) old mid new c.ranlib.new.known c.tell.new.answers c.ranlib.ensures.extends c.tell.ensures.asks.extends c.ranlib.ensures.asked c.ranlib.ensures.answered c.tell.ensures.asks.asks
    c.in_ok-cmd.ensures.ranlib c.in_ok-tell.ensures.told
    (λ look f h. does_told ranlib_reads set env look (ranlib_error set env look) [] c.in_ok-cmd.cmd (Ok c.in_ok-cmd.cmd) old mid new c.ranlib.ensures.extends c.tell.ensures.asks.extends (ap (option_map (plan_error set env [])) f.allowed, (asked_whole (since old mid) c.ranlib.ensures.quiet).0) h)

pub returns-clause-ranlib : goal.returns-clause-ranlib
returns-clause-ranlib g c =
    let old = g.H.Host.log c.args.host.now in
    let mid = g.H.Host.log c.ranlib.new.host in
    let new = g.H.Host.log c.tell.new.host in
    let set = c.args.task.now.set.now in
    let env = c.args.task.now.env.now in
    told_holds _ _ (probe_folder set env) (RanlibAsks set env) (NameAsks ranlib_reads set env) (names_in_ranlib set env) old mid new c.ranlib.new.known c.tell.new.answers c.ranlib.ensures.extends c.tell.ensures.asks.extends c.ranlib.ensures.asked c.ranlib.ensures.answered c.tell.ensures.asks.asks
    c.in_ok-cmd.ensures.ranlib c.in_ok-tell.ensures.told (λ look f h. f)
