use Rattle.std.proofs.Common.{[], ◌∷◌, refl}
use Rattle.std.proofs.lemmas.Result.{err_from_is_err_and}
use Rattle.cc_host.specs.declared.files.Held.TheVariants.{Absent}
use Rattle.cc_fresh.specs.Reads.{IsOne}
use Rattle.cc_fresh.specs.declared.file.ReadError.TheVariants.{Fault, NoMemory}
use Rattle.cc_fresh.proofs.FirstReads.{first_wanting, one_failed}
use Rattle.cc_fresh.proofs.file.read_file.Goals as goal

pub returns-in_err-of-in-Err-Fault-clause-refused : goal.returns-in_err-of-in-Err-Fault-clause-refused
returns-in_err-of-in-Err-Fault-clause-refused g c =
    let path = c.args.path.now in
    let p = err_from_is_err_and c.from_residual.result c.from_residual.ensures.1 in
    rw (p.1, p.2)
    (first_wanting (IsOne path) (g.F.Files.reads c.args.files.now) (g.F.Files.reads c.read.new.self) [] NoMemory (g.F.Files.faults c.args.files.now) (g.F.Files.faults c.read.new.self) refl c.in-Err-Fault.ensures.adds ((path, Absent) ∷ [], (Absent, refl)))

pub returns-in_ok-of-in-Err-Fault-clause-refused : goal.returns-in_ok-of-in-Err-Fault-clause-refused
returns-in_ok-of-in-Err-Fault-clause-refused g c =
    one_failed (g.F.Files.reads c.args.files.now) (g.F.Files.reads c.read.new.self) c.args.path.now (Fault c.in_ok-of-in-Err-Fault.field-0) (g.F.Files.faults c.args.files.now) (g.F.Files.faults c.read.new.self) c.in-Err-Fault.ensures.adds (c.in_ok-of-in-Err-Fault.ensures, c.in-Err-Fault.ensures.cause c.in-Err-Fault.field-0-is)

pub returns-in-Err-NoMemory-clause-refused : goal.returns-in-Err-NoMemory-clause-refused
returns-in-Err-NoMemory-clause-refused g c =
    let path = c.args.path.now in
    first_wanting (IsOne path) (g.F.Files.reads c.args.files.now) (g.F.Files.reads c.read.new.self) [] NoMemory (g.F.Files.faults c.args.files.now) (g.F.Files.faults c.read.new.self) refl c.in-Err-NoMemory.ensures.adds ((path, Absent) ∷ [], (Absent, refl))
