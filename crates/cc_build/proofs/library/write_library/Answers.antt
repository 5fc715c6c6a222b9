use Rattle.std.proofs.Common.{ℕ, List, [], Option, None, unwrap_or, ◌∙◌, subst}
use Rattle.std.proofs.lemmas.Result.{err_from_is_err_and}
use Rattle.cc_host.specs.Part.{since}
use Rattle.cc_build.specs.Kept.{left_at}
use Rattle.cc_build.specs.Phases.{Begins, BeginStops}
use Rattle.cc_build.specs.Seen.{stages_seen}
use Rattle.cc_build.specs.Went.{terms, Ends}
use Rattle.cc_build.specs.declared.stage.Stage.{Stage as Coded}
use Rattle.cc_build.proofs.PhaseLaws.{write_unready, write_stopped, write_ends}
use Rattle.cc_build.proofs.library.write_library.Goals as goal

pub returns-in_err-here-clause-outcome : goal.returns-in_err-here-clause-outcome
returns-in_err-here-clause-outcome g c =
    let p = err_from_is_err_and c.from_residual.result c.from_residual.ensures.1 in
    let x = left_at g.J.Jobs.faults g.J.Jobs.taken g.J.Jobs.load c.args.turns.now c.args.seat.now in
    let part = since (g.H.Host.log c.args.host.now) (g.H.Host.log c.prepare.new.host) in
    rw (p.1, p.2) (write_unready c.args.reporting.shows c.args.library.now (g.J.Jobs.total c.args.seat.now) (g.H.Host.patience c.args.host.now) part c.in_err-here.field-0.0 x c.in_err-here.ensures.outcome)

pub returns-in_err-left-clause-outcome : goal.returns-in_err-left-clause-outcome
returns-in_err-left-clause-outcome g c =
    let p = err_from_is_err_and c.from_residual-in_err-left.result c.from_residual-in_err-left.ensures.1 in
    let x = left_at g.J.Jobs.faults g.J.Jobs.taken g.J.Jobs.load c.args.turns.now c.args.seat.now in
    let old = g.H.Host.log c.args.host.now in
    let made = g.H.Host.log c.prepare.new.host in
    let new = g.H.Host.log c.begin.new.host in
    rw (p.1, p.2)
    (write_stopped c.args.reporting.shows c.args.library.now (g.J.Jobs.total c.args.seat.now) (g.H.Host.patience c.args.host.now) old made new x c.prepare.ensures.aside.extends c.begin.ensures.aside.extends (unwrap_or c.in_ok-here.here [])
    c.in_ok-here.ensures.outcome c.in_err-left.field-0.0
    (subst (λ (here : List ℕ). BeginStops c.args.reporting.shows c.args.library.now here c.in_err-left.field-0.0 (since made new)) c.text_or_empty.ensures c.in_err-left.ensures.stopped))

pub returns-clause-outcome : goal.returns-clause-outcome
returns-clause-outcome g c =
    let total = g.J.Jobs.total c.args.seat.now in
    let x = left_at g.J.Jobs.faults g.J.Jobs.taken g.J.Jobs.load c.args.turns.now c.args.seat.now in
    let z = left_at g.J.Jobs.faults g.J.Jobs.taken g.J.Jobs.load c.do_stages.new.turns c.do_stages.new.seat in
    let old = g.H.Host.log c.args.host.now in
    let made = g.H.Host.log c.prepare.new.host in
    let new = g.H.Host.log c.begin.new.host in
    let end = g.H.Host.log c.do_stages.new.host in
    let before = g.H.Host.patience c.begin.new.host in
    write_ends c.args.reporting.shows c.args.library.now total (g.H.Host.patience c.args.host.now) old made new x c.prepare.ensures.aside.extends c.begin.ensures.aside.extends (unwrap_or c.in_ok-here.here [])
    c.in_ok-here.ensures.outcome c.in_ok-left.left.items
    (subst (λ (here : List ℕ). Begins c.args.reporting.shows c.args.library.now here c.in_ok-left.left.items (since made new)) c.text_or_empty.ensures c.in_ok-left.ensures.begun)
    end z before c.do_stages.ensures.aside.extends (c.begin.ensures.aside.patient ∙ c.prepare.ensures.aside.patient) c.do_stages.result
    (subst (λ (l : List Coded). Ends (terms c.args.reporting.shows total before) None (stages_seen l) (since new end) c.do_stages.result x z) c.deref.ensures.value c.do_stages.ensures.outcome)
