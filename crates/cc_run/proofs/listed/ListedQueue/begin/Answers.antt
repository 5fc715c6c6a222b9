use Rattle.std.proofs.Common.{refl, arith}
use Rattle.cc_run.proofs.ListedLaws.{begin_listed}
use Rattle.cc_run.proofs.listed.ListedQueue.begin.Goals as goal

pub returns-then-self-clause-stands : goal.returns-then-self-clause-stands
returns-then-self-clause-stands c = λ marks at next. begin_listed c.args.self.now.stop _ c.args.self.now.cmds.now _ _ marks c.args._place at next (λ l. refl)

pub returns-else-self-clause-stands : goal.returns-else-self-clause-stands
returns-else-self-clause-stands c = λ marks at next. begin_listed c.args.self.now.stop _ c.args.self.now.cmds.now _ _ marks c.args._place at next (λ l. absurd (omega arith))
