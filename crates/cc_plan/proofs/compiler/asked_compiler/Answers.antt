use Rattle.std.proofs.Common.{rules}
use Rattle.cc_plan.specs.Compiler.{asked_compiler}
use Rattle.cc_plan.proofs.PassBy.{by_ok, pass_by}
use Rattle.cc_plan.proofs.compiler.asked_compiler.Goals as goal

pub returns : goal.returns
unfolding asked_compiler
returns c = by_ok _ _ c.in_ok-family.ensures (search rules) (search (pass_by, rules))
