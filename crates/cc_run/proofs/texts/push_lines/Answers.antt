use Rattle.std.proofs.Common.{arith}
use Rattle.std.proofs.lemmas.Grind.{common_steps}
use Rattle.cc_run.specs.Texts.{cargo_line}
use Rattle.cc_run.proofs.LineLemmas.{push_line}
use Rattle.cc_run.proofs.texts.push_lines.Goals as goal

pub loop-text-preserved : goal.loop-text-preserved
loop-text-preserved c = push_line (cargo_line c.args.kind) c.args.texts.now c.loop-text.text-index c.text-item.result c.loop-text.lines.items c.push.new.self.items c.args.lines.now.items c.loop-text-test.true (grind (arith, common_steps)) (grind (arith, common_steps)) c.loop-text.invariant
