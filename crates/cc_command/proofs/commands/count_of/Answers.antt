use Rattle.std.proofs.Common.{ℕ, Option, subst, arith}
use Rattle.cc_command.specs.Read.{IsNumberOf}
use Rattle.cc_command.proofs.WordLaws.{taken_is}
use Rattle.cc_command.proofs.commands.count_of.Goals as goal

pub returns-in-Some : goal.returns-in-Some
returns-in-Some c = taken_is c.args.text.now c.in-Some.n c.taken.result (omega arith) (subst (λ (m : Option ℕ). IsNumberOf c.args.text.now m) c.in-Some.is c.in_ok-n.ensures) c.taken.ensures
