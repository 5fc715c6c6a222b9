use Rattle.cc_command.specs.Call.{call_of}
use Rattle.cc_command.specs.Read.{name_of}
use Rattle.cc_command.proofs.JobLaws.{recorded_ends, plain_ends}
use Rattle.cc_command.proofs.job.compile.Goals as goal

pub returns-in-Some-clause-ends : goal.returns-in-Some-clause-ends
returns-in-Some-clause-ends g c =
    recorded_ends (call_of g.H.Host.log g.H.Host.patience g.H.Host.listens g.W.World.steady g.W.World.answer g.J.Jobs.total g.J.Jobs.faults g.J.Jobs.taken g.J.Jobs.load c.args.turns c.args.host.now c.compile_recorded.new.host c.args.seat.now c.compile_recorded.new.seat)
    c.args.request.now.database _ _ _ (name_of c.args.request.now.job) c.args.request.now.build c.compile_recorded.result c.in-Some.is c.as_str.ensures c.name-name.ensures c.compile_recorded.ensures.answer

pub returns-in-None-clause-ends : goal.returns-in-None-clause-ends
returns-in-None-clause-ends g c =
    plain_ends (call_of g.H.Host.log g.H.Host.patience g.H.Host.listens g.W.World.steady g.W.World.answer g.J.Jobs.total g.J.Jobs.faults g.J.Jobs.taken g.J.Jobs.load c.args.turns c.args.host.now c.try_compile.new.host c.args.seat.now c.try_compile.new.seat)
    c.args.request.now.database _ (name_of c.args.request.now.job) c.args.request.now.build c.try_compile.result c.in-None.is c.name-name.ensures c.try_compile.ensures.built c.try_compile.ensures.promises
