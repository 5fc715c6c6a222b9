use Rattle.std.proofs.Common.{◌≡◌, ◌<◌, ◌∙◌, List, [], length, subst, sym, arith}
use Rattle.cc_host.specs.Part.{since}
use Rattle.cc_run.specs.declared.planned.Planned.{Planned}
use Rattle.cc_plan.proofs.LineLemmas.{since_none}
use Rattle.cc_build.specs.Went.{terms, means}
use Rattle.cc_fleet.specs.Run.{RunsTo}
use Rattle.cc_fleet.proofs.RunLemmas.{none_of, none_ran}
use Rattle.cc_fleet.proofs.run.run_commands.Goals as goal

pub returns-in-empty-clause-ran : goal.returns-in-empty-clause-ran
returns-in-empty-clause-ran g c =
    let t = terms c.args.shows.now (g.J.Jobs.total c.args.seat.now) (g.H.Host.patience c.args.host.now) in
    let x = means c.args.turns.now.left (g.J.Jobs.faults c.args.seat.now) (g.J.Jobs.taken c.args.seat.now) (g.J.Jobs.load c.args.seat.now) in
    let old = g.H.Host.log c.args.host.now in
    let few : length c.as_slice.result.now < 1 = omega (arith, c.in-empty.len_below) in
    let none : c.args.joined.now.commands.items ≡ [] = sym c.as_slice.ensures.value ∙ none_of c.as_slice.result.now few in
    subst (λ (cmds : List Planned). RunsTo t cmds c.args.joined.now c.failures_by.result (since old old) x x) (sym none) (none_ran t c.args.joined.now c.failures_by.result (since old old) x (since_none old) c.failures_by.ensures)
