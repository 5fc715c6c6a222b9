use Rattle.cc_plan.proofs.RerunLaws.{by_made, by_noted, by_unmade}
use Rattle.cc_plan.proofs.reruns.pair_notes.Goals as goal

pub returns-then-is_planned : goal.returns-then-is_planned
returns-then-is_planned c = by_made c.if-is_planned.true (by_noted c.plan_pair.result c.noted.result c.plan_pair.ensures c.noted.ensures)

pub returns-else-is_planned : goal.returns-else-is_planned
returns-else-is_planned c = by_unmade _ _ c.if-is_planned.false
