use Rattle.std.proofs.lemmas.List.{get_or_default}
use Rattle.std.proofs.Common.{◌≡◌, ◌<◌, sym, ap, subst, ◌∙◌, arith, length, [], set}
use Rattle.cc_graph.specs.Frontier.{AreOpen, Lowers}
use Rattle.cc_graph.specs.Graph.{graph_of}
use Rattle.cc_graph.specs.Queue.{waiters_at}
use Rattle.cc_graph.proofs.QueueLaws.{end_at, end_past, enough_open}
use Rattle.cc_graph.proofs.queue.Graph.succeed.Goals as goal

pub returns-then-place-len-clause-stands : goal.returns-then-place-len-clause-stands
returns-then-place-len-clause-stands c = λ marks status ok t.
    let g = graph_of c.args.self.now.nodes.now in
    let waiters = c.args.self.now.waiters.items in
    let size = c.args.self.now.waiters.ok.0 in
    let within : c.args.place < length waiters = omega (arith, size, c.len.ensures, c.if-place-len.true) in
    let same : c.as_slice.result.now ≡ waiters_at waiters c.args.place = c.as_slice.ensures ∙ c.index.ensures ∙ get_or_default waiters c.args.place c.index.result.now [] within in
    let lowered = c.lower_all.ensures t.sound (subst (AreOpen c.args.self.now.frontier) (sym same) (enough_open g waiters c.args.self.now.frontier marks c.args.place status t ok)) in
    let known = subst (Lowers c.args.self.now.frontier c.lower_all.new.self) same lowered in
    end_at g waiters (set waiters c.args.place c.clear.new.self) c.args.self.now.frontier c.lower_all.new.self marks c.args.place status t ok within (ap (set waiters c.args.place) c.clear.ensures) known.0 known.1

pub returns-else-place-len-clause-stands : goal.returns-else-place-len-clause-stands
returns-else-place-len-clause-stands c = λ marks status ok t.
    let size = c.args.self.now.waiters.ok.0 in
    end_past (graph_of c.args.self.now.nodes.now) c.args.self.now.waiters.items c.args.self.now.frontier marks c.args.place status t ok (omega (arith, size, c.len.ensures, c.if-place-len.false))
