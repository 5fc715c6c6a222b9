use Rattle.std.proofs.Common.{◌∙◌, sym, inr, arith}
use Rattle.cc_run.proofs.ListedLaws.{next_some_listed, next_none_listed}
use Rattle.cc_run.proofs.listed.ListedQueue.next.Goals as goal

pub returns-then-self : goal.returns-then-self
returns-then-self c = λ marks at. next_some_listed c.args.self.now.stop c.args.self.now.failed _ _ marks at (sym c.is_halted.ensures ∙ c.if-is_halted.false) (omega arith)

pub returns-else-self : goal.returns-else-self
returns-else-self c = λ marks at. next_none_listed c.args.self.now.stop c.args.self.now.failed _ _ marks at (inr (omega arith))
