use Rattle.std.proofs.Common.{[], sym, subst, refl, map, append-nil, string_bytes}
use Rattle.cc_build.proofs.Going.{part_is}
use Rattle.cc_command.specs.Read.{read}
use Rattle.cc_command.specs.Answered.{Answered}
use Rattle.cc_command.specs.Call.{call_of}
use Rattle.cc_command.proofs.AnswerLaws.{bad_read}
use Rattle.cc_command.proofs.ServedLaws.{unread_answered}
use Rattle.cc_command.proofs.top.run_alone.Goals as goal

pub returns-in-Ok-clause-answered : goal.returns-in-Ok-clause-answered
returns-in-Ok-clause-answered g c =
    subst (λ words. Answered (call_of g.H.Host.log g.H.Host.patience g.H.Host.listens g.W.World.steady g.W.World.answer g.J.Jobs.total g.J.Jobs.faults g.J.Jobs.taken g.J.Jobs.load c.args.invocation.turns c.args.host.now c.serve.new.host c.args.seat.now c.serve.new.seat) words c.serve.result) (sym c.in-Ok.ensures.ok) c.serve.ensures.answered

pub returns-in-Err-Bad-clause-answered : goal.returns-in-Err-Bad-clause-answered
returns-in-Err-Bad-clause-answered g c =
    subst (λ words. Answered (call_of g.H.Host.log g.H.Host.patience g.H.Host.listens g.W.World.steady g.W.World.answer g.J.Jobs.total g.J.Jobs.faults g.J.Jobs.taken g.J.Jobs.load c.args.invocation.turns c.args.host.now c.refuse_word.new.host c.args.seat.now c.args.seat.now) words c.refuse_word.result)
    (sym (bad_read (read (map string_bytes c.args.invocation.words.now)) c.in-Err-Bad.field-0 c.in-Err-Bad.bad c.in-Err-Bad.field-0-is c.in-Err-Bad.ensures.refused)) (refl, c.refuse_word.ensures.answer)

pub returns-in-Err-NoMemory-clause-answered : goal.returns-in-Err-NoMemory-clause-answered
returns-in-Err-NoMemory-clause-answered g c =
    let log = g.H.Host.log c.args.host.now in
    unread_answered (call_of g.H.Host.log g.H.Host.patience g.H.Host.listens g.W.World.steady g.W.World.answer g.J.Jobs.total g.J.Jobs.faults g.J.Jobs.taken g.J.Jobs.load c.args.invocation.turns c.args.host.now c.args.host.now c.args.seat.now c.args.seat.now)
    (read (map string_bytes c.args.invocation.words.now)) c.ended_wanting.result (part_is log log [] (sym (append-nil log))) refl c.ended_wanting.ensures
