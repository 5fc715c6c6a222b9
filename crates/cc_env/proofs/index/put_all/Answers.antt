use Rattle.std.proofs.Common.{◌<◌, length, sym, arith}
use Rattle.cc_env.proofs.SnapshotLemmas.{child_none, child_step}
use Rattle.cc_env.proofs.index.put_all.Goals as goal

pub loop-name-init : goal.loop-name-init
loop-name-init c = record { child = sym (child_none c.args.vars.now c.requires.distinct); indexed = c.requires }

pub loop-name-preserved : goal.loop-name-preserved
loop-name-preserved c =
    let items = c.as_slice-name-items.result.now in
    let within : c.loop-name.name-index < length items = grind (arith, c.loop-name-test.true) in
    record {
      child = child_step c.args.vars.now items _ _ c.loop-name.name-index c.loop-name-item.result _ _ within c.loop-name-item.is c.as_str.ensures c.as_str-in-loop-name.ensures c.loop-name.invariant.child c.in_ok-put.ensures.value;
      indexed = c.in_ok-put.ensures.indexed;
    }
