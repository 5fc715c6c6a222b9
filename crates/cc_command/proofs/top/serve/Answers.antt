use Rattle.std.proofs.Common.{◌∙◌, ◌++◌, Bool, Ok, ap, refl, subst}
use Rattle.cc_host.specs.Part.{since}
use Rattle.cc_host.proofs.Parts.{since_since, since_extends}
use Rattle.cc_command.specs.Answered.{Answered}
use Rattle.cc_command.specs.Call.{call_of, seat_counts}
use Rattle.cc_command.specs.Read.{wish_of}
use Rattle.cc_command.proofs.ServedLaws.{served, unlisted_answered}
use Rattle.cc_command.proofs.top.serve.Goals as goal

pub returns-in-Ok-clause-answered : goal.returns-in-Ok-clause-answered
returns-in-Ok-clause-answered g c =
    let old = g.H.Host.log c.args.host.now in
    let mid = g.H.Host.log c.capture.new.host in
    let end = g.H.Host.log c.do_job-done.new.host in
    let new = g.H.Host.log c.conclude.new.host in
    let call = call_of g.H.Host.log g.H.Host.patience g.H.Host.listens g.W.World.steady g.W.World.answer g.J.Jobs.total g.J.Jobs.faults g.J.Jobs.taken g.J.Jobs.load c.args.turns c.args.host.now c.conclude.new.host c.args.seat.now c.do_job-done.new.seat in
    subst (λ (l : Bool). Answered (record call { listens = l }) (Ok (wish_of c.args.request.now.job c.args.request.now.database c.args.request.now.build)) c.conclude.result) c.capture.ensures.ear
    (served (g.H.Host.listens c.capture.new.host) g.W.World.steady g.W.World.answer (g.H.Host.patience c.capture.new.host) (g.H.Host.patience c.args.host.now) (g.J.Jobs.total c.args.seat.now) c.capture.ensures.patient c.args.turns
    (seat_counts (g.J.Jobs.faults c.args.seat.now) (g.J.Jobs.taken c.args.seat.now) (g.J.Jobs.load c.args.seat.now)) (seat_counts (g.J.Jobs.faults c.do_job-done.new.seat) (g.J.Jobs.taken c.do_job-done.new.seat) (g.J.Jobs.load c.do_job-done.new.seat))
    c.args.request.now.build c.capture.new.self (since old mid) (since mid end) (since end new) (since old new) c.in-Ok.ensures.captured
    (since_since old end new (since_extends old mid end c.capture.ensures.extends c.do_job-done.ensures.extends) c.conclude.ensures.extends ∙ ap (λ l. l ++ since end new) (since_since old mid end c.capture.ensures.extends c.do_job-done.ensures.extends))
    c.conclude.ensures.asks_none c.requires.repeats c.conclude.result c.args.request.now.job c.args.request.now.database c.do_job-done.result.result c.do_job-done.result.bench c.do_job-done.ensures.ends c.conclude.ensures.bench c.conclude.ensures.says)

pub returns-in-Err-clause-answered : goal.returns-in-Err-clause-answered
returns-in-Err-clause-answered g c =
    let old = g.H.Host.log c.args.host.now in
    let mid = g.H.Host.log c.capture.new.host in
    let new = g.H.Host.log c.refuse.new.host in
    unlisted_answered (call_of g.H.Host.log g.H.Host.patience g.H.Host.listens g.W.World.steady g.W.World.answer g.J.Jobs.total g.J.Jobs.faults g.J.Jobs.taken g.J.Jobs.load c.args.turns c.args.host.now c.refuse.new.host c.args.seat.now c.args.seat.now)
    (since old mid) (since mid new) c.in-Err.error c.refuse.result (since_since old mid new c.capture.ensures.extends c.refuse.ensures.extends) c.in-Err.ensures.outcome c.refuse.ensures.answer refl c.capture.ensures.asks_none c.refuse.ensures.asks_none
    (wish_of c.args.request.now.job c.args.request.now.database c.args.request.now.build)
