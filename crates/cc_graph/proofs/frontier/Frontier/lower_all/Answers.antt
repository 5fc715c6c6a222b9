use Rattle.std.proofs.lemmas.List.{take_more}
use Rattle.std.proofs.Common.{[], ◌∷◌, take, get_or, sym, subst}
use Rattle.cc_graph.specs.Frontier.{Lowered}
use Rattle.cc_graph.proofs.FrontierLemmas.{lowered_then, next_open}
use Rattle.cc_graph.proofs.frontier.Frontier.lower_all.Goals as goal

pub loop-place-preserved : goal.loop-place-preserved
loop-place-preserved c = λ sound enough.
    let before = c.loop-place.invariant sound enough in
    let places = c.args.places.now in
    let i = c.loop-place.place-index in
    let step = c.lower.ensures before.0 (next_open c.args.self.now c.loop-place.self places i c.loop-place-test.true before.1 enough) in
    (step.0, subst (Lowered c.args.self.now c.lower.new.self) (sym (take_more places i 0 c.loop-place-test.true)) (lowered_then c.args.self.now c.loop-place.self c.lower.new.self (take i places) (get_or places i 0 ∷ []) before.1 step.1))
