use Rattle.std.proofs.Common.{rules, arith}
use Rattle.std.proofs.lemmas.Grind.{common_steps}
use Rattle.cc_plan.proofs.PassBy.{by_ok}
use Rattle.cc_plan.specs.Reruns.{names_plan}
use Rattle.cc_plan.proofs.reruns.read_notes.Goals as goal

pub returns : goal.returns
unfolding names_plan
returns c = by_ok _ _ c.in_ok-note_names.ensures (first_of (search rules, cc, grind (arith, common_steps))) c.tools_notes.ensures
