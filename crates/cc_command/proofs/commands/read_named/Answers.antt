use Rattle.std.proofs.Common.{Bool, map, string_bytes, subst, inl, refl}
use Rattle.std.proofs.lemmas.Result.{err_from_is_err_and}
use Rattle.cc_command.specs.SetsKey.{ReadsSettings}
use Rattle.cc_command.proofs.WordLaws.{reads_so, repeats_so}
use Rattle.cc_command.proofs.commands.read_named.Goals as goal

pub returns-clause-ok : goal.returns-clause-ok
returns-clause-ok g c = reads_so c.args.command.now c.args.name.now (map string_bytes c.args.words.now) c.in_ok-job.job c.in_ok-build.build c.in_ok-database.database c.in_ok-job.ensures.known (subst (λ (b : Bool). ReadsSettings b 2 (map string_bytes c.args.words.now) c.in_ok-build.build) c.compiles.ensures c.in_ok-build.ensures.ok) c.in_ok-database.ensures

pub returns-clause-repeats : goal.returns-clause-repeats
returns-clause-repeats g c = repeats_so _ 2 (map string_bytes c.args.words.now) c.in_ok-build.build c.in_ok-build.ensures.ok

pub returns-in_err-database-clause-refused : goal.returns-in_err-database-clause-refused
returns-in_err-database-clause-refused g c =
    let p = err_from_is_err_and c.from_residual-in_err-database.result c.from_residual-in_err-database.ensures.1 in
    rw (p.1, p.2) (inl refl)
