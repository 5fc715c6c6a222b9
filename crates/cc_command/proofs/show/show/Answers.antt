use Rattle.std.proofs.Common.{◌∙◌, ◌++◌, ap}
use Rattle.std.proofs.lemmas.Result.{err_from_is_err_and}
use Rattle.cc_host.specs.Part.{since}
use Rattle.cc_host.proofs.Parts.{since_since, since_extends}
use Rattle.cc_command.proofs.ShownLaws.{no_compiler, no_archiver, no_ranlib, tools_shown}
use Rattle.cc_command.proofs.show.show.Goals as goal

pub returns-in_err-tool-clause-showing : goal.returns-in_err-tool-clause-showing
returns-in_err-tool-clause-showing g c =
    let part = since (g.H.Host.log c.args.host.now) (g.H.Host.log c.try_get_compiler.new.host) in
    let p = err_from_is_err_and c.from_residual.result c.from_residual.ensures.1 in
    rw (p.1, p.2)
    (no_compiler (g.H.Host.listens c.args.host.now) g.W.World.steady g.W.World.answer c.args.build.now c.requires.repeats part c.in_err-tool.field-0.0 c.try_get_compiler.ensures.asked c.try_get_compiler.ensures.childless c.in_err-tool.ensures.outcome)

pub returns-in_err-archiver-clause-showing : goal.returns-in_err-archiver-clause-showing
returns-in_err-archiver-clause-showing g c =
    let old = g.H.Host.log c.args.host.now in
    let mid = g.H.Host.log c.try_get_compiler.new.host in
    let new = g.H.Host.log c.try_get_archiver.new.host in
    let p = err_from_is_err_and c.from_residual-in_err-archiver.result c.from_residual-in_err-archiver.ensures.1 in
    rw (p.1, p.2)
    (no_archiver (g.H.Host.listens c.args.host.now) g.W.World.steady g.W.World.answer c.args.build.now c.requires.repeats c.in_ok-tool.tool (since old mid) c.try_get_compiler.ensures.asked c.try_get_compiler.ensures.childless c.in_ok-tool.ensures.tool c.in_ok-tool.ensures.outcome
    (since mid new) (since old new) c.in_err-archiver.field-0.0 (since_since old mid new c.try_get_compiler.ensures.extends c.try_get_archiver.ensures.extends) c.try_get_archiver.ensures.asked c.try_get_archiver.ensures.childless c.in_err-archiver.ensures.outcome)

pub returns-in_err-ranlib-clause-showing : goal.returns-in_err-ranlib-clause-showing
returns-in_err-ranlib-clause-showing g c =
    let old = g.H.Host.log c.args.host.now in
    let mid = g.H.Host.log c.try_get_compiler.new.host in
    let next = g.H.Host.log c.try_get_archiver.new.host in
    let new = g.H.Host.log c.try_get_ranlib.new.host in
    let p = err_from_is_err_and c.from_residual-in_err-ranlib.result c.from_residual-in_err-ranlib.ensures.1 in
    let behind = since_extends mid next new c.try_get_archiver.ensures.extends c.try_get_ranlib.ensures.extends in
    rw (p.1, p.2)
    (no_ranlib (g.H.Host.listens c.args.host.now) g.W.World.steady g.W.World.answer c.args.build.now c.requires.repeats c.in_ok-tool.tool (since old mid) c.try_get_compiler.ensures.asked c.try_get_compiler.ensures.childless c.in_ok-tool.ensures.tool c.in_ok-tool.ensures.outcome
    c.in_ok-archiver.archiver (since mid next) c.try_get_archiver.ensures.asked c.try_get_archiver.ensures.childless c.in_ok-archiver.ensures.archiver c.in_ok-archiver.ensures.outcome
    (since next new) (since old new) c.in_err-ranlib.field-0.0
    (since_since old mid new c.try_get_compiler.ensures.extends behind ∙ ap (λ l. since old mid ++ l) (since_since mid next new c.try_get_archiver.ensures.extends c.try_get_ranlib.ensures.extends))
    c.try_get_ranlib.ensures.asked c.try_get_ranlib.ensures.childless c.in_err-ranlib.ensures.outcome)

pub returns-clause-showing : goal.returns-clause-showing
returns-clause-showing g c =
    let old = g.H.Host.log c.args.host.now in
    let mid = g.H.Host.log c.try_get_compiler.new.host in
    let next = g.H.Host.log c.try_get_archiver.new.host in
    let last = g.H.Host.log c.try_get_ranlib.new.host in
    let new = g.H.Host.log c.print_tools.new.host in
    let printed = c.print_tools.ensures.aside.extends in
    let ranlib_on = since_extends next last new c.try_get_ranlib.ensures.extends printed in
    let archiver_on = since_extends mid next new c.try_get_archiver.ensures.extends ranlib_on in
    tools_shown (g.H.Host.listens c.args.host.now) g.W.World.steady g.W.World.answer c.args.build.now c.requires.repeats c.in_ok-tool.tool (since old mid) c.try_get_compiler.ensures.asked c.try_get_compiler.ensures.childless c.in_ok-tool.ensures.tool c.in_ok-tool.ensures.outcome
    c.in_ok-archiver.archiver (since mid next) c.try_get_archiver.ensures.asked c.try_get_archiver.ensures.childless c.in_ok-archiver.ensures.archiver c.in_ok-archiver.ensures.outcome
    c.in_ok-ranlib.ranlib (since next last) (since last new) (since old new) c.print_tools.result
    (since_since old mid new c.try_get_compiler.ensures.extends archiver_on
    ∙ ap (λ l. since old mid ++ l) (since_since mid next new c.try_get_archiver.ensures.extends ranlib_on
    ∙ ap (λ l. since mid next ++ l) (since_since next last new c.try_get_ranlib.ensures.extends printed)))
    c.try_get_ranlib.ensures.asked c.try_get_ranlib.ensures.childless c.in_ok-ranlib.ensures.ranlib c.in_ok-ranlib.ensures.outcome c.print_tools.ensures.aside.asks_none c.print_tools.ensures.outcome
