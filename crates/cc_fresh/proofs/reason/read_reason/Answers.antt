use Rattle.std.proofs.Common.{Option, ℕ, suc, option_map, refl, sym, ap}
use Rattle.std.proofs.lemmas.Result.{err_from_is_err_and}
use Rattle.cc_fresh.specs.Reason.{reason_at}
use Rattle.cc_fresh.proofs.ReasonLaws.{source_off, source_refused, source_then, source_then_refused}
use Rattle.cc_fresh.proofs.reason.read_reason.Goals as goal

pub returns-then-not-branch-clause-read : goal.returns-then-not-branch-clause-read
returns-then-not-branch-clause-read g c =
    let old = g.F.Files.reads c.args.files.now in
    let new = g.F.Files.reads c.read_one.new.files in
    source_off old new new c.args.source.now c.args.source.now c.as_str.result.now c.args.entry.now refl c.as_str.ensures c.in_ok-read_one.field-0 c.if-not-branch.true c.in_ok-read_one.ensures.read

pub returns-in-Some-clause-read : goal.returns-in-Some-clause-read
returns-in-Some-clause-read g c =
    let old = g.F.Files.reads c.args.files.now in
    let mid = g.F.Files.reads c.read_one.new.files in
    let new = g.F.Files.reads c.first_off.new.files in
    source_then old mid new c.args.source.now c.args.source.now c.as_str.result.now c.args.entry.now refl c.as_str.ensures c.in_ok-read_one.field-0 c.if-not-branch.false c.in_ok-read_one.ensures.read
    c.as_slice.result.now c.in_ok-place.field-0 _ c.as_slice.ensures (sym (ap (λ (off : Option ℕ). reason_at (option_map suc off)) c.in-Some.is)) c.in_ok-place.ensures.read

pub returns-in-None-clause-read : goal.returns-in-None-clause-read
returns-in-None-clause-read g c =
    let old = g.F.Files.reads c.args.files.now in
    let mid = g.F.Files.reads c.read_one.new.files in
    let new = g.F.Files.reads c.first_off.new.files in
    source_then old mid new c.args.source.now c.args.source.now c.as_str.result.now c.args.entry.now refl c.as_str.ensures c.in_ok-read_one.field-0 c.if-not-branch.false c.in_ok-read_one.ensures.read
    c.as_slice.result.now c.in_ok-place.field-0 _ c.as_slice.ensures (sym (ap (λ (off : Option ℕ). reason_at (option_map suc off)) c.in-None.is)) c.in_ok-place.ensures.read

pub returns-in_err-read_one-clause-refused : goal.returns-in_err-read_one-clause-refused
returns-in_err-read_one-clause-refused g c =
    let old = g.F.Files.reads c.args.files.now in
    let new = g.F.Files.reads c.read_one.new.files in
    let p = err_from_is_err_and c.from_residual.result c.from_residual.ensures.1 in
    rw (p.1, p.2)
    (source_refused old new new c.args.source.now c.args.source.now c.as_str.result.now c.args.entry.now refl c.as_str.ensures c.in_err-read_one.field-0.0 (g.F.Files.faults c.args.files.now) (g.F.Files.faults c.read_one.new.files) c.in_err-read_one.ensures.refused)

pub returns-in_err-place-clause-refused : goal.returns-in_err-place-clause-refused
returns-in_err-place-clause-refused g c =
    let old = g.F.Files.reads c.args.files.now in
    let mid = g.F.Files.reads c.read_one.new.files in
    let new = g.F.Files.reads c.first_off.new.files in
    let p = err_from_is_err_and c.from_residual-in_err-place.result c.from_residual-in_err-place.ensures.1 in
    rw (p.1, p.2)
    (source_then_refused old mid new c.args.source.now c.args.source.now c.as_str.result.now c.args.entry.now refl c.as_str.ensures c.in_ok-read_one.field-0 c.if-not-branch.false c.in_ok-read_one.ensures.read
    c.as_slice.result.now c.in_err-place.field-0.0 (g.F.Files.faults c.args.files.now) (g.F.Files.faults c.read_one.new.files) (g.F.Files.faults c.first_off.new.files) c.as_slice.ensures c.read_one.ensures.later c.in_err-place.ensures.refused)
