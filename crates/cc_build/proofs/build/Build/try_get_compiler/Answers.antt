use Rattle.cc_plan.specs.Questions.{PlanAsks}
use Rattle.cc_build.specs.Build.{BuildSeen}
use Rattle.cc_plan.proofs.ResultLemmas.{ok_so}
use Rattle.cc_build.specs.Compiler.{IsTool, CompilerEnds}
use Rattle.cc_build.proofs.Asking.{asked_seen, holds_seen, ends_seen, build_is}
use Rattle.cc_build.proofs.build.Build.try_get_compiler.Goals as goal

pub returns-clause-asked : goal.returns-clause-asked
returns-clause-asked g c = asked_seen _ _ (λ (b : BuildSeen). PlanAsks b.config b.env) _ _ c.args.self.now (build_is c.args.self.now _ _ c.task.ensures.set c.task.ensures.env) c.told_compiler.ensures.asked

pub returns-clause-outcome : goal.returns-clause-outcome
returns-clause-outcome g c = ends_seen _ _ (λ (b : BuildSeen) look part. CompilerEnds b.config b.env (g.H.Host.listens c.args.host.now) c.told_compiler.result look part) _ c.args.self.now (build_is c.args.self.now _ _ c.task.ensures.set c.task.ensures.env) c.told_compiler.ensures.outcome

pub returns-clause-tool : goal.returns-clause-tool
returns-clause-tool g c = ok_so c.told_compiler.result c.told_compiler.ensures.tool (λ v h. holds_seen _ (λ (b : BuildSeen). IsTool b.config b.env v) _ c.args.self.now (build_is c.args.self.now _ _ c.task.ensures.set c.task.ensures.env) h)
