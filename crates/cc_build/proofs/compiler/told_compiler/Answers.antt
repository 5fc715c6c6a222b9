use Rattle.std.proofs.Common.{◌≡◌, inl, inr, ap, Bool, List, Ok, Err}
use Rattle.std.proofs.lemmas.Result.{err_from_is_err_and}
use Rattle.cc_host.specs.Part.{since}
use Rattle.cc_host.specs.Question.{answers}
use Rattle.cc_host.proofs.Parts.{since_extends}
use Rattle.cc_flags.specs.Given.{probe_folder}
use Rattle.cc_plan.specs.Questions.{NameAsks, PlanAsks}
use Rattle.cc_build.specs.Told.{compiler_reads}
use Rattle.cc_build.proofs.ExpandLaws.{childless_since}
use Rattle.cc_build.proofs.PrintedLaws.{asked_whole, asked_refused}
use Rattle.cc_build.proofs.ToldLaws.{names_in_plan, told_asked, told_holds, does_told, refused_told}
use Rattle.cc_build.specs.Compiler.{tool_error, tool_steps}
use Rattle.cc_tool.specs.Tool.{ToolSeen}
use Rattle.cc_build.proofs.compiler.told_compiler.Goals as goal

pub returns-in_err-tool-clause-outcome : goal.returns-in_err-tool-clause-outcome
returns-in_err-tool-clause-outcome g c =
    let p = err_from_is_err_and c.from_residual.result c.from_residual.ensures.1 in
    let part = since (g.H.Host.log c.args.host.now) (g.H.Host.log c.compiler.new.host) in
    let set = c.args.task.now.set.now in
    let env = c.args.task.now.env.now in
    let e = c.in_err-tool.field-0.0 in
    rw (p.1, p.2) (record { under = λ look agree. let f = c.in_err-tool.ensures.outcome.under look agree in (f.0, refused_told compiler_reads set env look (tool_error set env look) (tool_steps set env (g.H.Host.listens c.args.host.now) f.0 look) ToolSeen e part f.1) })

pub returns-in_err-tell-clause-extends : goal.returns-in_err-tell-clause-extends
returns-in_err-tell-clause-extends g c = since_extends (g.H.Host.log c.args.host.now) (g.H.Host.log c.compiler.new.host) (g.H.Host.log c.tell.new.host) c.compiler.ensures.extends c.tell.ensures.asks.extends

pub returns-in_err-tell-clause-asked : goal.returns-in_err-tell-clause-asked
returns-in_err-tell-clause-asked g c =
    let old = g.H.Host.log c.args.host.now in
    let mid = g.H.Host.log c.compiler.new.host in
    let new = g.H.Host.log c.tell.new.host in
    let set = c.args.task.now.set.now in
    let env = c.args.task.now.env.now in
    told_asked _ _ (probe_folder set env) (PlanAsks set env) (NameAsks compiler_reads set env) (names_in_plan set env) old mid new c.compiler.new.known c.tell.new.answers c.compiler.ensures.extends c.tell.ensures.asks.extends c.compiler.ensures.asked c.compiler.ensures.answered c.tell.ensures.asks.asks

pub returns-in_err-tell-clause-childless : goal.returns-in_err-tell-clause-childless
returns-in_err-tell-clause-childless g c =
    let old = g.H.Host.log c.args.host.now in
    let mid = g.H.Host.log c.compiler.new.host in
    let new = g.H.Host.log c.tell.new.host in
    let set = c.args.task.now.set.now in
    let env = c.args.task.now.env.now in
    childless_since old mid new c.compiler.ensures.extends c.tell.ensures.asks.extends c.compiler.ensures.childless c.tell.ensures.childless

pub returns-in_err-tell-clause-outcome : goal.returns-in_err-tell-clause-outcome
returns-in_err-tell-clause-outcome g c =
    let p = err_from_is_err_and c.from_residual-in_err-tell.result c.from_residual-in_err-tell.ensures.1 in
    let old = g.H.Host.log c.args.host.now in
    let mid = g.H.Host.log c.compiler.new.host in
    let new = g.H.Host.log c.tell.new.host in
    let set = c.args.task.now.set.now in
    let env = c.args.task.now.env.now in
    rw (p.1, p.2)
    (told_holds _ _ (probe_folder set env) (PlanAsks set env) (NameAsks compiler_reads set env) (names_in_plan set env) old mid new c.compiler.new.known c.tell.new.answers c.compiler.ensures.extends c.tell.ensures.asks.extends c.compiler.ensures.asked c.compiler.ensures.answered c.tell.ensures.asks.asks
    c.in_ok-tool.ensures.outcome c.in_err-tell.ensures.told
    (λ look f h. (f.0, does_told compiler_reads set env look (tool_error set env look) (tool_steps set env (g.H.Host.listens c.args.host.now) f.0 look) {T = ToolSeen} c.in_ok-tool.tool (Err c.in_err-tell.field-0.0) old mid new c.compiler.ensures.extends c.tell.ensures.asks.extends f.1 h)))

pub returns-clause-extends : goal.returns-clause-extends
returns-clause-extends g c = since_extends (g.H.Host.log c.args.host.now) (g.H.Host.log c.compiler.new.host) (g.H.Host.log c.tell.new.host) c.compiler.ensures.extends c.tell.ensures.asks.extends

pub returns-clause-asked : goal.returns-clause-asked
returns-clause-asked g c =
    let old = g.H.Host.log c.args.host.now in
    let mid = g.H.Host.log c.compiler.new.host in
    let new = g.H.Host.log c.tell.new.host in
    let set = c.args.task.now.set.now in
    let env = c.args.task.now.env.now in
    told_asked _ _ (probe_folder set env) (PlanAsks set env) (NameAsks compiler_reads set env) (names_in_plan set env) old mid new c.compiler.new.known c.tell.new.answers c.compiler.ensures.extends c.tell.ensures.asks.extends c.compiler.ensures.asked c.compiler.ensures.answered c.tell.ensures.asks.asks

pub returns-clause-childless : goal.returns-clause-childless
returns-clause-childless g c =
    let old = g.H.Host.log c.args.host.now in
    let mid = g.H.Host.log c.compiler.new.host in
    let new = g.H.Host.log c.tell.new.host in
    let set = c.args.task.now.set.now in
    let env = c.args.task.now.env.now in
    childless_since old mid new c.compiler.ensures.extends c.tell.ensures.asks.extends c.compiler.ensures.childless c.tell.ensures.childless

pub returns-clause-outcome : goal.returns-clause-outcome
returns-clause-outcome g c =
    let old = g.H.Host.log c.args.host.now in
    let mid = g.H.Host.log c.compiler.new.host in
    let new = g.H.Host.log c.tell.new.host in
    let set = c.args.task.now.set.now in
    let env = c.args.task.now.env.now in
    told_holds _ _ (probe_folder set env) (PlanAsks set env) (NameAsks compiler_reads set env) (names_in_plan set env) old mid new c.compiler.new.known c.tell.new.answers c.compiler.ensures.extends c.tell.ensures.asks.extends c.compiler.ensures.asked c.compiler.ensures.answered c.tell.ensures.asks.asks
    c.in_ok-tool.ensures.outcome c.in_ok-tell.ensures.told
    (λ look f h. (f.0, does_told compiler_reads set env look (tool_error set env look) (tool_steps set env (g.H.Host.listens c.args.host.now) f.0 look) c.in_ok-tool.tool (Ok c.in_ok-tool.tool) old mid new c.compiler.ensures.extends c.tell.ensures.asks.extends f.1 h))

pub returns-clause-tool : goal.returns-clause-tool
returns-clause-tool g c =
    let old = g.H.Host.log c.args.host.now in
    let mid = g.H.Host.log c.compiler.new.host in
    let new = g.H.Host.log c.tell.new.host in
    let set = c.args.task.now.set.now in
    let env = c.args.task.now.env.now in
    told_holds _ _ (probe_folder set env) (PlanAsks set env) (NameAsks compiler_reads set env) (names_in_plan set env) old mid new c.compiler.new.known c.tell.new.answers c.compiler.ensures.extends c.tell.ensures.asks.extends c.compiler.ensures.asked c.compiler.ensures.answered c.tell.ensures.asks.asks
    c.in_ok-tool.ensures.tool c.in_ok-tell.ensures.told (λ look f h. f)
