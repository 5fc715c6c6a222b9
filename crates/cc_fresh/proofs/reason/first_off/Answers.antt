use Rattle.std.proofs.Common.{arith}
use Rattle.std.proofs.lemmas.Result.{err_from_is_err_and}
use Rattle.cc_fresh.proofs.ReasonLaws.{read_more, read_refused, read_all}
use Rattle.cc_fresh.proofs.reason.first_off.Goals as goal

pub returns-in_err-read_one-clause-refused : goal.returns-in_err-read_one-clause-refused
returns-in_err-read_one-clause-refused g c =
    let old = g.F.Files.reads c.args.files.now in
    let mid = g.F.Files.reads c.loop-place.files in
    let new = g.F.Files.reads c.read_one.new.files in
    let p = err_from_is_err_and c.from_residual.result c.from_residual.ensures.1 in
    rw (p.1, p.2)
    (read_refused old mid c.args.deps.now c.loop-place.place c.index-deps-place.result c.loop-place-test.true c.index-deps-place.is c.loop-place.invariant.read new c.as_str.result.now c.in_err-read_one.field-0.0 _ _ _ c.as_str.ensures c.loop-place.invariant.later c.in_err-read_one.ensures.refused)

pub returns-in_err-read_one-clause-later : goal.returns-in_err-read_one-clause-later
returns-in_err-read_one-clause-later g c = omega (arith, c.loop-place.invariant.later, c.read_one.ensures.later)

pub loop-place-preserved : goal.loop-place-preserved
loop-place-preserved g c =
    let old = g.F.Files.reads c.args.files.now in
    let mid = g.F.Files.reads c.loop-place.files in
    let new = g.F.Files.reads c.read_one.new.files in
    record {
      read = read_more old mid c.args.deps.now c.loop-place.place c.index-deps-place.result c.loop-place-test.true c.index-deps-place.is c.loop-place.invariant.read new c.as_str.result.now c.as_str-in-loop-place.result.now c.in_ok-read_one.field-0 c.as_str.ensures c.as_str-in-loop-place.ensures c.if-not-branch.false c.in_ok-read_one.ensures.read;
      later = omega (arith, c.loop-place.invariant.later, c.read_one.ensures.later);
    }

pub returns-clause-read : goal.returns-clause-read
returns-clause-read g c = read_all (g.F.Files.reads c.args.files.now) (g.F.Files.reads c.loop-place.files) c.args.deps.now c.loop-place.place c.loop-place-test.false c.loop-place.invariant.read
