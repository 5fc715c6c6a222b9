use Rattle.std.proofs.Common.{◌≡◌, refl, arith}
use Rattle.std.proofs.lemmas.Result.{err_from_is_err_and}
use Rattle.cc_fresh.specs.Made.{digest_of}
use Rattle.cc_fresh.specs.declared.file.ReadError.TheVariants.{NoMemory}
use Rattle.cc_fresh.proofs.MadeLaws.{names_more, names_absent, names_wanting, names_refused, names_all}
use Rattle.cc_fresh.proofs.made.read_names.Goals as goal

pub returns-in_err-found-clause-refused : goal.returns-in_err-found-clause-refused
returns-in_err-found-clause-refused g c =
    let old = g.F.Files.reads c.args.files.now in
    let mid = g.F.Files.reads c.loop-name.files in
    let new = g.F.Files.reads c.read_digest.new.files in
    let p = err_from_is_err_and c.from_residual.result c.from_residual.ensures.1 in
    rw (p.1, p.2)
    (names_refused old mid c.args.names.now c.loop-name.name-index c.name-item.result c.loop-name.deps c.loop-name-test.true c.name-item.is c.loop-name.invariant.read new c.as_str.result.now c.in_err-found.field-0.0 _ _ _ c.as_str.ensures c.loop-name.invariant.later c.in_err-found.ensures.refused)

pub returns-in_err-found-clause-later : goal.returns-in_err-found-clause-later
returns-in_err-found-clause-later g c = omega (arith, c.loop-name.invariant.later, c.read_digest.ensures.later)

pub returns-in-None-clause-read : goal.returns-in-None-clause-read
returns-in-None-clause-read g c =
    let old = g.F.Files.reads c.args.files.now in
    let mid = g.F.Files.reads c.loop-name.files in
    let new = g.F.Files.reads c.read_digest.new.files in
    names_absent old mid c.args.names.now c.loop-name.name-index c.name-item.result c.loop-name.deps c.loop-name-test.true c.name-item.is c.loop-name.invariant.read new c.as_str.result.now _ c.as_str.ensures c.in-None.is c.in_ok-found.ensures.read

pub loop-name-preserved : goal.loop-name-preserved
loop-name-preserved g c =
    let old = g.F.Files.reads c.args.files.now in
    let mid = g.F.Files.reads c.loop-name.files in
    let new = g.F.Files.reads c.read_digest.new.files in
    record {
      read = names_more old mid c.args.names.now c.loop-name.name-index c.name-item.result c.loop-name.deps c.loop-name-test.true c.name-item.is c.loop-name.invariant.read new c.as_str.result.now c.as_str-in-Some.result.now c.as_str-in-Some-2.result.now c.in-Some.found c.in_ok-found.field-0 _ c.as_str.ensures c.as_str-in-Some.ensures c.as_str-in-Some-2.ensures c.in-Some.is c.in_ok-push-in-Some.ensures.ok c.in_ok-found.ensures.read;
      later = omega (arith, c.loop-name.invariant.later, c.read_digest.ensures.later);
    }

pub returns-clause-read : goal.returns-clause-read
returns-clause-read g c = names_all (g.F.Files.reads c.args.files.now) (g.F.Files.reads c.loop-name.files) c.args.names.now c.loop-name.name-index c.loop-name.deps c.loop-name-test.false c.loop-name.invariant.read

pub returns-in_err-push-in-Some-clause-refused : goal.returns-in_err-push-in-Some-clause-refused
returns-in_err-push-in-Some-clause-refused g c =
    let old = g.F.Files.reads c.args.files.now in
    let mid = g.F.Files.reads c.loop-name.files in
    let new = g.F.Files.reads c.read_digest.new.files in
    let p = err_from_is_err_and c.from_residual-in_err-push-in-Some.result c.from_residual-in_err-push-in-Some.ensures.1 in
    rw (p.1, p.2)
    (names_wanting old mid c.args.names.now c.loop-name.name-index c.name-item.result c.loop-name.deps c.loop-name-test.true c.name-item.is c.loop-name.invariant.read new c.as_str.result.now (λ held. c.in_ok-found.field-0 ≡ digest_of held) NoMemory (g.F.Files.faults c.args.files.now) (g.F.Files.faults c.read_digest.new.files) c.as_str.ensures refl c.in_ok-found.ensures.read)
