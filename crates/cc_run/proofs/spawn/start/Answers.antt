use Rattle.std.proofs.Common.{◌≡◌, ◌++◌, ◌∙◌, ap, subst, Err, arith}
use Rattle.std.proofs.lemmas.Grind.{common_steps}
use Rattle.cc_host.specs.Part.{since}
use Rattle.cc_run.specs.Started.{IsStart}
use Rattle.cc_host.specs.Children.{started_ids, IsFresh}
use Rattle.cc_run.specs.Prints.{ArePrinted, prints}
use Rattle.cc_run.proofs.LifeLemmas.{newcomer_behind}
use Rattle.cc_run.proofs.Quiet.{prints_ids}
use Rattle.cc_run.specs.Messages.{before}
use Rattle.cc_run.proofs.StartLemmas.{start_unprinted, start_wanting}
use Rattle.cc_run.proofs.spawn.start.Goals as goal

pub returns-in_err-reserve-clause-part : goal.returns-in_err-reserve-clause-part
returns-in_err-reserve-clause-part g c = start_wanting c.args.shows.now c.args.planned.now c.args.place c.args.held c.args.running.now _ c.from_residual.result _ (grind (arith, common_steps)) (grind (arith, common_steps)) (grind (arith, common_steps))

pub returns-in_err-lines-clause-part : goal.returns-in_err-lines-clause-part
returns-in_err-lines-clause-part g c = start_wanting c.args.shows.now c.args.planned.now c.args.place c.args.held c.args.running.now _ c.from_residual-in_err-lines.result _ (grind (arith, common_steps)) (grind (arith, common_steps)) (grind (arith, common_steps))

pub returns-in-Err-clause-part : goal.returns-in-Err-clause-part
returns-in-Err-clause-part g c =
    let part = since (g.H.Host.log c.args.host.now) (g.H.Host.log c.print_all.new.host) in
    let lines : c.deref.result.now ≡ before c.args.shows.now c.args.planned.now = grind (arith, common_steps) in
    let shown = subst (λ l. ArePrinted {T = Unit {0}} l (Err c.in-Err.e) part) lines c.in-Err.ensures.printed in
    subst (λ k. IsStart c.args.shows.now c.args.planned.now c.args.place c.args.held c.args.running.now (Err c.in-Err.e) k part) (grind (arith, common_steps)) (start_unprinted c.args.shows.now c.args.planned.now c.args.place c.args.held c.args.running.now c.in-Err.e part shown c.in-Err.ensures.kind)

pub returns-in-Ok-Child-clause-fresh : goal.returns-in-Ok-Child-clause-fresh
returns-in-Ok-Child-clause-fresh g c =
    let old = g.H.Host.log c.args.host.now in
    let mid = g.H.Host.log c.print_all.new.host in
    let cut : mid ≡ old ++ prints c.deref.result.now = c.print_all.ensures.extends ∙ ap (λ p. old ++ p) c.in_default.ensures.printed in
    newcomer_behind old mid c.in-Ok-Child.id (ap started_ids cut ∙ prints_ids old c.deref.result.now) (subst (IsFresh mid) c.in-Ok-Child.field-0-is c.in-Ok-Child.ensures.fresh)

pub returns-in_err-reserve-2-clause-part : goal.returns-in_err-reserve-2-clause-part
returns-in_err-reserve-2-clause-part g c = start_wanting c.args.shows.now c.args.planned.now c.args.place c.args.held c.args.running.now _ c.from_residual-in_err-reserve-2.result _ (grind (arith, common_steps)) (grind (arith, common_steps)) (grind (arith, common_steps))
