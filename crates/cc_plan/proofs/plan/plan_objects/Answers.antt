use Rattle.std.proofs.lemmas.Result.{err_from_is_err_and}
use Rattle.cc_plan.proofs.SourceLaws.{intermediate_by_sources}
use Rattle.cc_plan.proofs.plan.plan_objects.Goals as goal

pub returns-in_err-objects-clause-refused : goal.returns-in_err-objects-clause-refused
returns-in_err-objects-clause-refused c =
    let p = err_from_is_err_and c.from_residual-in_err-objects.result c.from_residual-in_err-objects.ensures.1 in
    let refused = rw (c.inherited.ensures, c.source_root_of.ensures) at c.in_err-objects.ensures.refused in
    rw (p.1, p.2) (intermediate_by_sources c.args.set.now c.args.env.now c.in_ok-dir.dir.now c.in_err-objects.field-0.0 c.in_ok-dir.ensures.dir c.in_ok-dir.ensures.allowed refused)
