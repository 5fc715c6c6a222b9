use Rattle.std.proofs.Common.{rules}
use Rattle.cc_plan.specs.Choice.{wasi_compiler}
use Rattle.cc_plan.proofs.PassBy.{by_ok, pass_by}
use Rattle.cc_plan.proofs.choice.wasi_compiler.Goals as goal

pub returns-in-Some : goal.returns-in-Some
unfolding wasi_compiler
returns-in-Some c = by_ok _ _ c.in_ok-path.ensures (search rules) (rw c.in-Some.is (search (pass_by, rules)))

pub returns-in_ok-of-in-None : goal.returns-in_ok-of-in-None
unfolding wasi_compiler
returns-in_ok-of-in-None c = by_ok _ _ c.in_ok-path.ensures (search rules) (rw c.in-None.is (search (pass_by, rules)))
