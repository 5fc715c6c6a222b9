use Rattle.cc_host.specs.Part.{since}
use Rattle.cc_host.specs.Question.{answers}
use Rattle.cc_tool.proofs.SomeLemmas.{some_agree}
use Rattle.cc_build.proofs.PlanningLaws.{planning_childless}
use Rattle.cc_build.proofs.build.Build.try_plan_compile.Goals as goal

pub returns-clause-childless : goal.returns-clause-childless
returns-clause-childless g c =
    let part = since (g.H.Host.log c.args.host.now) (g.H.Host.log c.plan_alone.new.host) in
    let some = some_agree (answers part) c.plan_alone.ensures.asked.once in
    planning_childless c.args.self.now (g.H.Host.listens c.args.host.now) c.args.output.now c.plan_alone.result some.0 part (c.plan_alone.ensures.outcome.under some.0 some.1)
