use Rattle.std.proofs.Common.{◌∙◌}
use Rattle.cc_fleet.proofs.FailureLemmas.{failures_next}
use Rattle.cc_fleet.proofs.failures.last_failures.Goals as goal

pub loop-mark-preserved : goal.loop-mark-preserved
loop-mark-preserved c = record {
  size = c.note.ensures.size ∙ c.loop-mark.invariant.size;
  each = failures_next c.args.owners.now c.args.marks.now c.loop-mark.mark-index c.args.count _ c.loop-mark.failures.items c.note.new.failures.items c.loop-mark-test.true c.loop-mark.invariant.size c.note.ensures.each c.loop-mark.invariant.each;
}
