use Rattle.cc_command.specs.Answer.{asked_for}
use Rattle.cc_command.specs.Call.{call_of}
use Rattle.cc_command.proofs.AskLaws.{headline, all_promised, prints_last, faults_last, settled, asks_words}
use Rattle.cc_command.proofs.top.drive.Goals as goal

pub returns-clause-built : goal.returns-clause-built
returns-clause-built g c =
    headline (call_of g.H.Host.log g.H.Host.patience g.H.Host.listens g.W.World.steady g.W.World.answer g.J.Jobs.total g.J.Jobs.faults g.J.Jobs.taken g.J.Jobs.load c.args.turns c.args.host.now c.run.new.host c.args.seat.now c.run.new.seat)
    c.run.result (asked_for c.args.words.now) c.run.ensures.answered

pub returns-clause-promised : goal.returns-clause-promised
returns-clause-promised g c =
    all_promised (call_of g.H.Host.log g.H.Host.patience g.H.Host.listens g.W.World.steady g.W.World.answer g.J.Jobs.total g.J.Jobs.faults g.J.Jobs.taken g.J.Jobs.load c.args.turns c.args.host.now c.run.new.host c.args.seat.now c.run.new.seat)
    c.run.result (asked_for c.args.words.now) c.run.ensures.answered

pub returns-clause-printed : goal.returns-clause-printed
returns-clause-printed g c =
    prints_last (call_of g.H.Host.log g.H.Host.patience g.H.Host.listens g.W.World.steady g.W.World.answer g.J.Jobs.total g.J.Jobs.faults g.J.Jobs.taken g.J.Jobs.load c.args.turns c.args.host.now c.run.new.host c.args.seat.now c.run.new.seat)
    c.run.result (asked_for c.args.words.now) c.run.ensures.answered

pub returns-clause-faults_last : goal.returns-clause-faults_last
returns-clause-faults_last g c =
    faults_last (call_of g.H.Host.log g.H.Host.patience g.H.Host.listens g.W.World.steady g.W.World.answer g.J.Jobs.total g.J.Jobs.faults g.J.Jobs.taken g.J.Jobs.load c.args.turns c.args.host.now c.run.new.host c.args.seat.now c.run.new.seat)
    c.run.result (asked_for c.args.words.now) c.run.ensures.answered

pub returns-clause-settled : goal.returns-clause-settled
returns-clause-settled g c =
    settled (call_of g.H.Host.log g.H.Host.patience g.H.Host.listens g.W.World.steady g.W.World.answer g.J.Jobs.total g.J.Jobs.faults g.J.Jobs.taken g.J.Jobs.load c.args.turns c.args.host.now c.run.new.host c.args.seat.now c.run.new.seat)
    c.run.result (asked_for c.args.words.now) c.run.ensures.answered

pub returns-clause-asked : goal.returns-clause-asked
returns-clause-asked g c =
    asks_words (call_of g.H.Host.log g.H.Host.patience g.H.Host.listens g.W.World.steady g.W.World.answer g.J.Jobs.total g.J.Jobs.faults g.J.Jobs.taken g.J.Jobs.load c.args.turns c.args.host.now c.run.new.host c.args.seat.now c.run.new.seat)
    c.run.result (asked_for c.args.words.now) c.run.ensures.answered
