use Rattle.cc_plan.specs.Questions.{SupportAsks}
use Rattle.cc_build.specs.Build.{BuildSeen}
use Rattle.cc_plan.proofs.ResultLemmas.{ok_so}
use Rattle.cc_build.specs.FlagSupport.{IsVerdict, TrialEnds}
use Rattle.cc_build.proofs.Asking.{asked_seen, holds_seen, ends_seen, build_is}
use Rattle.cc_build.proofs.build.Build.is_flag_supported.Goals as goal

pub returns-clause-asked : goal.returns-clause-asked
returns-clause-asked g c = asked_seen _ _ (λ (b : BuildSeen). SupportAsks b.config b.env c.args.flag.now) _ _ c.args.self.now (build_is c.args.self.now _ _ c.task.ensures.set c.task.ensures.env) c.told_support.ensures.asked

pub returns-clause-outcome : goal.returns-clause-outcome
returns-clause-outcome g c = ends_seen _ _ (λ (b : BuildSeen) look part. TrialEnds b.config b.env (g.H.Host.listens c.args.host.now) c.args.flag.now c.told_support.result look part) _ c.args.self.now (build_is c.args.self.now _ _ c.task.ensures.set c.task.ensures.env) c.told_support.ensures.outcome

pub returns-clause-supported : goal.returns-clause-supported
returns-clause-supported g c = ok_so c.told_support.result c.told_support.ensures.supported (λ v h. holds_seen _ (λ (b : BuildSeen). IsVerdict b.config b.env c.args.flag.now v) _ c.args.self.now (build_is c.args.self.now _ _ c.task.ensures.set c.task.ensures.env) h)
