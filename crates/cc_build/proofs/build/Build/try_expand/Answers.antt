use Rattle.cc_host.specs.Part.{since}
use Rattle.cc_host.specs.Question.{answers, Holds}
use Rattle.cc_plan.specs.Questions.{PlanAsks}
use Rattle.cc_build.specs.Build.{BuildSeen}
use Rattle.cc_build.specs.Expand.{ExpandedEnds}
use Rattle.cc_build.proofs.ExpandFaults.{told_faults}
use Rattle.cc_build.proofs.ExpandFirst.{tells_sole}
use Rattle.cc_build.proofs.Asking.{asked_seen, ends_seen, build_is}
use Rattle.cc_build.proofs.build.Build.try_expand.Goals as goal

pub returns-clause-asked : goal.returns-clause-asked
returns-clause-asked g c = asked_seen _ _ (λ (b : BuildSeen). PlanAsks b.config b.env) _ _ c.args.self.now (build_is c.args.self.now _ _ c.task.ensures.set c.task.ensures.env) c.told_expand.ensures.asked

pub returns-clause-outcome : goal.returns-clause-outcome
returns-clause-outcome g c = ends_seen _ _ (λ (b : BuildSeen) look part. ExpandedEnds b (g.H.Host.listens c.args.host.now) c.told_expand.result look part) _ c.args.self.now (build_is c.args.self.now _ _ c.task.ensures.set c.task.ensures.env) c.told_expand.ensures.outcome

pub returns-clause-faults_last : goal.returns-clause-faults_last
returns-clause-faults_last g c = told_faults _ _ _ _ c.told_expand.result _ c.told_expand.ensures.asked c.told_expand.ensures.outcome

pub returns-clause-prefix : goal.returns-clause-prefix
returns-clause-prefix g c =
    let part = since (g.H.Host.log c.args.host.now) (g.H.Host.log c.told_expand.new.host) in
    let listens = g.H.Host.listens c.args.host.now in
    let ends : Holds (answers part) (λ look. ExpandedEnds c.args.self.now listens c.told_expand.result look part) =
    ends_seen _ _ (λ (b : BuildSeen) look part. ExpandedEnds b listens c.told_expand.result look part) _ c.args.self.now (build_is c.args.self.now _ _ c.task.ensures.set c.task.ensures.env) c.told_expand.ensures.outcome in
    record { under = λ look agree. tells_sole listens c.args.self.now look c.told_expand.result part (ends.under look agree) c.told_expand.ensures.childless }
