use Rattle.cc_plan.specs.Questions.{RanlibAsks}
use Rattle.cc_build.specs.Build.{BuildSeen}
use Rattle.cc_plan.proofs.ResultLemmas.{ok_so}
use Rattle.cc_build.specs.Tools.{IsRanlib, RanlibEnds}
use Rattle.cc_build.proofs.Asking.{asked_seen, holds_seen, ends_seen, build_is}
use Rattle.cc_build.proofs.build.Build.try_get_ranlib.Goals as goal

pub returns-clause-asked : goal.returns-clause-asked
returns-clause-asked g c = asked_seen _ _ (λ (b : BuildSeen). RanlibAsks b.config b.env) _ _ c.args.self.now (build_is c.args.self.now _ _ c.task.ensures.set c.task.ensures.env) c.told_ranlib.ensures.asked

pub returns-clause-outcome : goal.returns-clause-outcome
returns-clause-outcome g c = ends_seen _ _ (λ (b : BuildSeen) look part. RanlibEnds b.config b.env c.told_ranlib.result look part) _ c.args.self.now (build_is c.args.self.now _ _ c.task.ensures.set c.task.ensures.env) c.told_ranlib.ensures.outcome

pub returns-clause-ranlib : goal.returns-clause-ranlib
returns-clause-ranlib g c = ok_so c.told_ranlib.result c.told_ranlib.ensures.ranlib (λ v h. holds_seen _ (λ (b : BuildSeen). IsRanlib b.config b.env v) _ c.args.self.now (build_is c.args.self.now _ _ c.task.ensures.set c.task.ensures.env) h)
