use Rattle.std.proofs.Common.{rules}
use Rattle.cc_plan.specs.Choice.{cross_compiler, prefixed_or_default}
use Rattle.cc_plan.proofs.PassBy.{by_ok, pass_by}
use Rattle.cc_plan.proofs.choice.cross_compiler.Goals as goal

pub returns-in_ok-name-in-Some : goal.returns-in_ok-name-in-Some
unfolding cross_compiler prefixed_or_default
returns-in_ok-name-in-Some c = by_ok _ _ c.in_ok-prefix.ensures (search rules) (rw c.in-Some.is (search (pass_by, rules)))
