use Rattle.std.proofs.Common.{◌∙◌, ap, refl, None, List, subst}
use Rattle.std.proofs.lemmas.Result.{err_from_is_err_and}
use Rattle.cc_host.specs.Part.{since}
use Rattle.cc_plan.proofs.LineLemmas.{since_none}
use Rattle.cc_build.specs.Error.{no_memory}
use Rattle.cc_build.specs.Kept.{left_at}
use Rattle.cc_build.specs.Seen.{stages_seen}
use Rattle.cc_build.specs.Stage.{Stage, beside}
use Rattle.cc_build.specs.Went.{terms, Ends}
use Rattle.cc_build.proofs.Going.{halted_none}
use Rattle.cc_build.proofs.compiles.run_beside.Goals as goal

pub returns-in_err-stages-clause-outcome : goal.returns-in_err-stages-clause-outcome
returns-in_err-stages-clause-outcome g c =
    let p = err_from_is_err_and c.from_residual.result c.from_residual.ensures.1 in
    let old = g.H.Host.log c.args.host.now in
    let t = terms c.args.reporting.shows (g.J.Jobs.total c.args.seat.now) (g.H.Host.patience c.args.host.now) in
    let x = left_at g.J.Jobs.faults g.J.Jobs.taken g.J.Jobs.load c.args.turns.now c.args.seat.now in
    rw (p.1, p.2) (halted_none t None (beside c.args.cmds.items) (since old old) no_memory x (since_none old) refl (λ none. absurd (c.in_err-stages.ensures.wanted none)))

pub returns-clause-outcome : goal.returns-clause-outcome
returns-clause-outcome g c =
    let part = since (g.H.Host.log c.args.host.now) (g.H.Host.log c.do_stages.new.host) in
    let t = terms c.args.reporting.shows (g.J.Jobs.total c.args.seat.now) (g.H.Host.patience c.args.host.now) in
    let x = left_at g.J.Jobs.faults g.J.Jobs.taken g.J.Jobs.load c.args.turns.now c.args.seat.now in
    let z = left_at g.J.Jobs.faults g.J.Jobs.taken g.J.Jobs.load c.do_stages.new.turns c.do_stages.new.seat in
    subst (λ (stages : List Stage). Ends t None stages part c.do_stages.result x z) (ap stages_seen c.deref.ensures.value ∙ c.in_ok-stages.ensures.planned) c.do_stages.ensures.outcome
