use Rattle.cc_build.specs.Seen.{stages_seen}
use Rattle.cc_build.proofs.Doing.{lines_none, lines_more}
use Rattle.cc_build.proofs.stage.push_lines.Goals as goal

pub loop-line-init : goal.loop-line-init
loop-line-init c = lines_none (stages_seen c.args.stages.now.items) c.args.kind

pub loop-line-preserved : goal.loop-line-preserved
loop-line-preserved c =
    lines_more c.args.stages.now.items c.loop-line.stages.items c.push.new.self.items c.args.kind c.as_slice-line-items.result.now c.loop-line.line-index c.line-item.result c.in_ok-line.line c.loop-line-test.true c.line-item.is c.in_ok-line.ensures c.loop-line.invariant c.in_ok-push.ensures.items
