use Rattle.std.proofs.Common.{refl}
use Rattle.cc_graph.proofs.FrontierLemmas.{first_some}
use Rattle.cc_graph.proofs.frontier.Frontier.first.Goals as goal

pub returns-in-Some : goal.returns-in-Some
returns-in-Some c = λ sound. first_some c.args.self.now c.in-Some.place.now (c.in-Some.ensures.variant.0 refl) c.in-Some.ensures.lookup (c.in-Some.ensures.greatest sound.ordered)
