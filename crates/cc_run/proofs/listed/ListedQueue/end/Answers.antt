use Rattle.std.proofs.Common.{arith}
use Rattle.std.proofs.lemmas.Grind.{common_steps}
use Rattle.cc_run.proofs.ListedLaws.{end_listed}
use Rattle.cc_run.proofs.listed.ListedQueue.end.Goals as goal

pub returns-then-not-is_success-clause-stands : goal.returns-then-not-is_success-clause-stands
returns-then-not-is_success-clause-stands c = λ marks at. end_listed c.args.self.now.failed _ _ marks c.args._place c.args.status at (grind (arith, common_steps))

pub returns-else-not-is_success-clause-stands : goal.returns-else-not-is_success-clause-stands
returns-else-not-is_success-clause-stands c = λ marks at. end_listed c.args.self.now.failed _ _ marks c.args._place c.args.status at (grind (arith, common_steps))
