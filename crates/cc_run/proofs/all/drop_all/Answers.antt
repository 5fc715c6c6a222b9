use Rattle.std.proofs.Common.{arith, ◌∙◌}
use Rattle.std.proofs.lemmas.Grind.{common_steps}
use Rattle.cc_run.proofs.Drops.{has_child, drop_step}
use Rattle.cc_run.proofs.all.drop_all.Goals as goal

pub abandon-requires : goal.abandon-requires
abandon-requires g c = has_child c.deref-child-items.result.now c.loop-child.child-index c.child-item.result (g.H.Host.log c.loop-child.host) c.loop-child-test.true (grind (arith, common_steps)) c.loop-child.invariant.own

pub loop-child-preserved : goal.loop-child-preserved
loop-child-preserved g c =
    let s = drop_step c.deref-child-items.result.now c.loop-child.child-index c.child-item.result (g.H.Host.log c.args.host.now) (g.H.Host.log c.loop-child.host) (g.H.Host.log c.abandon.new.self) c.loop-child-test.true (grind (arith, common_steps)) c.loop-child.invariant.adds c.loop-child.invariant.own c.abandon.ensures.adds in
    record {
      fits = c.give.ensures.fits;
      held = grind (arith, common_steps);
      returned = record {
        same_total = c.give.ensures.total ∙ c.loop-child.invariant.returned.same_total;
        same_taken = c.give.ensures.counts.0 ∙ c.loop-child.invariant.returned.same_taken;
        same_load = c.give.ensures.counts.1 ∙ c.loop-child.invariant.returned.same_load;
        later = omega (arith, c.give.ensures.later, c.loop-child.invariant.returned.later);
      };
      patient = c.abandon.ensures.keeps.1 ∙ c.loop-child.invariant.patient;
      adds = s.0;
      own = s.1;
    }
