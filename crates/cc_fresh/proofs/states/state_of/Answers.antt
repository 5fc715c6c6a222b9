use Rattle.std.proofs.lemmas.Result.{err_from_is_err_and}
use Rattle.cc_fresh.proofs.StateLaws.{state_refused}
use Rattle.cc_fresh.proofs.states.state_of.Goals as goal

pub returns-in_err-digest-clause-refused : goal.returns-in_err-digest-clause-refused
returns-in_err-digest-clause-refused g c =
    let old = g.F.Files.reads c.args.files.now in
    let new = g.F.Files.reads c.read_digest.new.files in
    let p = err_from_is_err_and c.from_residual.result c.from_residual.ensures.1 in
    rw (p.1, p.2)
    (state_refused c.args.unit.now c.args.is_compiled c.as_str.result.now old new c.in_err-digest.field-0.0 (g.F.Files.faults c.args.files.now) (g.F.Files.faults c.read_digest.new.files) c.if-is_compiled.true c.as_str.ensures c.in_err-digest.ensures.refused)
