use Rattle.cc_plan.proofs.RerunLaws.{by_made, by_noted, by_unmade}
use Rattle.cc_plan.proofs.reruns.assembler_notes.Goals as goal

pub returns-then-is_planned : goal.returns-then-is_planned
returns-then-is_planned c = by_made c.if-is_planned.true (by_noted c.plan_tools.result c.noted.result c.plan_tools.ensures c.noted.ensures)

pub returns-else-is_planned : goal.returns-else-is_planned
returns-else-is_planned c = by_unmade _ _ c.if-is_planned.false
