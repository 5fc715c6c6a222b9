use Rattle.std.proofs.Common.{List, ℕ, refl, ap, subst}
use Rattle.cc_host.specs.Part.{since}
use Rattle.cc_command.specs.Archived.{Archiving}
use Rattle.cc_command.specs.Call.{call_of}
use Rattle.cc_command.specs.Jobs.{CompileJob}
use Rattle.cc_command.specs.Read.{name_of}
use Rattle.cc_command.proofs.JobLaws.{job_ends}
use Rattle.cc_command.proofs.job.do_job.Goals as goal

pub returns-in-Compile-clause-ends : goal.returns-in-Compile-clause-ends
returns-in-Compile-clause-ends g c =
    let call = call_of g.H.Host.log g.H.Host.patience g.H.Host.listens g.W.World.steady g.W.World.answer g.J.Jobs.total g.J.Jobs.faults g.J.Jobs.taken g.J.Jobs.load c.args.turns c.args.host.now c.compile.new.host c.args.seat.now c.compile.new.seat in
    job_ends call c.args.request.now.job _ c.args.request.now.database c.args.request.now.build c.plain.result.result c.compile.result c.plain.result.bench c.in-Compile.is c.plain.ensures.same
    (c.plain.ensures.none, c.compile.ensures.asked, subst (λ (n : List ℕ). CompileJob call c.args.request.now.database n c.args.request.now.build c.compile.result) (ap name_of c.in-Compile.is) c.compile.ensures.ends)

pub returns-in-Archive-clause-ends : goal.returns-in-Archive-clause-ends
returns-in-Archive-clause-ends g c =
    let call = call_of g.H.Host.log g.H.Host.patience g.H.Host.listens g.W.World.steady g.W.World.answer g.J.Jobs.total g.J.Jobs.faults g.J.Jobs.taken g.J.Jobs.load c.args.turns c.args.host.now c.archive.new.host c.args.seat.now c.args.seat.now in
    let part = since (g.H.Host.log c.args.host.now) (g.H.Host.log c.archive.new.host) in
    job_ends call c.args.request.now.job _ c.args.request.now.database c.args.request.now.build c.plain-in-Archive.result.result c.archive.result c.plain-in-Archive.result.bench c.in-Archive.is c.plain-in-Archive.ensures.same
    (c.plain-in-Archive.ensures.none, refl, subst (λ (n : List ℕ). Archiving (g.H.Host.listens c.args.host.now) g.W.World.steady g.W.World.answer c.args.request.now.build (g.H.Host.patience c.args.host.now) c.args.turns n part c.archive.result) (ap name_of c.in-Archive.is) c.archive.ensures.archiving)

pub returns-in-Generate-clause-ends : goal.returns-in-Generate-clause-ends
returns-in-Generate-clause-ends g c =
    let call = call_of g.H.Host.log g.H.Host.patience g.H.Host.listens g.W.World.steady g.W.World.answer g.J.Jobs.total g.J.Jobs.faults g.J.Jobs.taken g.J.Jobs.load c.args.turns c.args.host.now c.generate_alone.new.host c.args.seat.now c.args.seat.now in
    job_ends call c.args.request.now.job _ c.args.request.now.database c.args.request.now.build c.generate_alone.result.result c.generate_alone.result.result c.generate_alone.result.bench c.in-Generate.is refl
    (c.generate_alone.ensures.aside.asks_none, refl, c.generate_alone.ensures.ends)

pub returns-in-Expand-clause-ends : goal.returns-in-Expand-clause-ends
returns-in-Expand-clause-ends g c =
    let call = call_of g.H.Host.log g.H.Host.patience g.H.Host.listens g.W.World.steady g.W.World.answer g.J.Jobs.total g.J.Jobs.faults g.J.Jobs.taken g.J.Jobs.load c.args.turns c.args.host.now c.expand.new.host c.args.seat.now c.args.seat.now in
    job_ends call c.args.request.now.job _ c.args.request.now.database c.args.request.now.build c.plain-in-Expand.result.result c.expand.result c.plain-in-Expand.result.bench c.in-Expand.is c.plain-in-Expand.ensures.same
    (c.plain-in-Expand.ensures.none, refl, c.expand.ensures.expanding)

pub returns-in-Show-clause-ends : goal.returns-in-Show-clause-ends
returns-in-Show-clause-ends g c =
    let call = call_of g.H.Host.log g.H.Host.patience g.H.Host.listens g.W.World.steady g.W.World.answer g.J.Jobs.total g.J.Jobs.faults g.J.Jobs.taken g.J.Jobs.load c.args.turns c.args.host.now c.show.new.host c.args.seat.now c.args.seat.now in
    job_ends call c.args.request.now.job _ c.args.request.now.database c.args.request.now.build c.plain-in-Show.result.result c.show.result c.plain-in-Show.result.bench c.in-Show.is c.plain-in-Show.ensures.same
    (c.plain-in-Show.ensures.none, refl, c.show.ensures.showing)
