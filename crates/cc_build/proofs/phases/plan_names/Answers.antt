use Rattle.cc_plan.specs.Questions.{NameAsks, RunAsks}
use Rattle.cc_host.specs.Part.{since}
use Rattle.cc_flags.specs.Given.{probe_folder}
use Rattle.cc_build.proofs.ToldLaws.{on_more, names_in_run}
use Rattle.cc_build.proofs.phases.plan_names.Goals as goal

pub returns-clause-asks : goal.returns-clause-asks
returns-clause-asks g c =
    let set = c.args.shared.now.task.set.now in
    let env = c.args.shared.now.task.env.now in
    let reads = c.args.shared.now.reads in
    let asks = c.read_names.ensures.asks in
    record {
      patient = asks.patient;
      extends = asks.extends;
      asks = on_more g.W.World.steady g.W.World.answer (probe_folder set env) (NameAsks reads set env) (RunAsks set env) (since (g.H.Host.log c.args.host.now) (g.H.Host.log c.read_names.new.host)) _ _ (λ look q. names_in_run reads set env look q c.requires.plain) asks.asks;
    }
