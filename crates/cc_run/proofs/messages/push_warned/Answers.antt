use Rattle.std.proofs.Common.{arith}
use Rattle.std.proofs.lemmas.Grind.{common_steps}
use Rattle.cc_run.specs.Messages.{warned_of}
use Rattle.cc_run.proofs.LineLemmas.{push_line}
use Rattle.cc_run.proofs.messages.push_warned.Goals as goal

pub loop-text-preserved : goal.loop-text-preserved
loop-text-preserved c = push_line (warned_of c.args.cmd.now) c.args.texts.now c.loop-text.text-index c.text-item.result c.loop-text.notices.items c.push.new.self.items c.args.notices.now.items c.loop-text-test.true (grind (arith, common_steps)) (grind (arith, common_steps)) c.loop-text.invariant
