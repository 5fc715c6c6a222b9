use Rattle.std.proofs.Common.{refl, sym, append-nil}
use Rattle.std.proofs.lemmas.Result.{err_from_is_err_and}
use Rattle.cc_fresh.specs.declared.file.ReadError.TheVariants.{NoMemory}
use Rattle.cc_fresh.proofs.EntryLaws.{entry_unread, entry_refused, entry_wanting}
use Rattle.cc_fresh.proofs.entries.entry_made.Goals as goal

pub returns-in_err-kept_entry-in-Kept-clause-refused : goal.returns-in_err-kept_entry-in-Kept-clause-refused
returns-in_err-kept_entry-in-Kept-clause-refused g c =
    let old = g.F.Files.reads c.args.files.now in
    let x = g.F.Files.faults c.args.files.now in
    let p = err_from_is_err_and c.from_residual.result c.from_residual.ensures.1 in
    rw (p.1, p.2) (entry_unread c.args.checks_object c.args.kept.now c.args.unit.now c.args.state.now old old NoMemory x x refl (sym (append-nil old)))

pub returns-in_err-deps-in-Compiled-clause-refused : goal.returns-in_err-deps-in-Compiled-clause-refused
returns-in_err-deps-in-Compiled-clause-refused g c =
    let old = g.F.Files.reads c.args.files.now in
    let new = g.F.Files.reads c.read_made.new.files in
    let p = err_from_is_err_and c.from_residual-in_err-deps-in-Compiled.result c.from_residual-in_err-deps-in-Compiled.ensures.1 in
    rw (p.1, p.2)
    (entry_refused c.args.checks_object c.args.kept.now c.args.unit.now c.args.state.now old new c.in_err-deps-in-Compiled.field-0.0 (g.F.Files.faults c.args.files.now) (g.F.Files.faults c.read_made.new.files)
    c.in-Compiled.digest c.as_str.result.now c.in-Compiled.is c.as_str.ensures c.in_err-deps-in-Compiled.ensures.refused)

pub returns-in_err-entry_by-in-Compiled-clause-refused : goal.returns-in_err-entry_by-in-Compiled-clause-refused
returns-in_err-entry_by-in-Compiled-clause-refused g c =
    let old = g.F.Files.reads c.args.files.now in
    let new = g.F.Files.reads c.read_made.new.files in
    let p = err_from_is_err_and c.from_residual-in_err-entry_by-in-Compiled.result c.from_residual-in_err-entry_by-in-Compiled.ensures.1 in
    rw (p.1, p.2)
    (entry_wanting c.args.checks_object c.args.kept.now c.args.unit.now c.args.state.now old new NoMemory (g.F.Files.faults c.args.files.now) (g.F.Files.faults c.read_made.new.files)
    c.in-Compiled.digest c.as_str.result.now c.in-Compiled.is c.as_str.ensures c.in_ok-deps-in-Compiled.deps refl c.in_ok-deps-in-Compiled.ensures.read)
