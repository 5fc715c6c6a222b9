use Rattle.cc_command.specs.Read.{IsCountOf}
use Rattle.std.proofs.Common.{false, map, string_bytes, ℕ, Option, subst}
use Rattle.cc_command.proofs.WordLaws.{counts_so, repeats_so}
use Rattle.cc_command.proofs.commands.read_count.Goals as goal

pub returns-in_ok-build-in-Some-clause-ok : goal.returns-in_ok-build-in-Some-clause-ok
returns-in_ok-build-in-Some-clause-ok g c = counts_so c.args.number.now (map string_bytes c.args.words.now) c.in-Some.count (subst (λ (m : Option ℕ). IsCountOf c.args.number.now m) c.in-Some.is c.in_ok-count.ensures) c.in_ok-check_further-in-Some.ensures.fine

pub returns-in_ok-build-in-Some-clause-repeats : goal.returns-in_ok-build-in-Some-clause-repeats
returns-in_ok-build-in-Some-clause-repeats g c = repeats_so false 2 (map string_bytes c.args.words.now) c.in_ok-build-in-Some.build c.in_ok-build-in-Some.ensures.ok
