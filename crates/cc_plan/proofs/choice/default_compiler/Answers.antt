use Rattle.std.proofs.Common.{rules}
use Rattle.cc_plan.specs.Choice.{default_compiler}
use Rattle.cc_plan.proofs.PassBy.{by_ok, pass_by}
use Rattle.cc_plan.proofs.choice.default_compiler.Goals as goal

pub returns-in-Some : goal.returns-in-Some
unfolding default_compiler
returns-in-Some c = by_ok _ _ c.in_ok-path.ensures (search rules) (rw c.in-Some.is (search (pass_by, rules)))

pub returns-in_ok-of-in-None : goal.returns-in_ok-of-in-None
unfolding default_compiler
returns-in_ok-of-in-None c = by_ok _ _ c.in_ok-path.ensures (search rules) (rw c.in-None.is (search (pass_by, rules)))
