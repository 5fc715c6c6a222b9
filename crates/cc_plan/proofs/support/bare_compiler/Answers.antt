use Rattle.std.proofs.Common.{rules, arith}
use Rattle.std.proofs.lemmas.Grind.{common_steps}
use Rattle.cc_plan.specs.Support.{bare_compiler}
use Rattle.cc_plan.proofs.PassBy.{by_done, by_ok}
use Rattle.cc_plan.proofs.support.bare_compiler.Goals as goal

pub returns : goal.returns
unfolding bare_compiler
returns c = by_ok _ _ c.in_ok-family.ensures (first_of (search rules, cc, grind (arith, common_steps))) (by_done (first_of (search rules, cc, grind (arith, common_steps))))
