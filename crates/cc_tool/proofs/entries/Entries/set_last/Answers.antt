use Rattle.std.proofs.Common.{◌∙◌, ap, sym}
use Rattle.cc_host.specs.Question.{Answer}
use Rattle.cc_tool.specs.Places.{Listed, if_any}
use Rattle.cc_tool.proofs.KnownLemmas.{set_last}
use Rattle.cc_tool.proofs.PlacesLemmas.{places_set}
use Rattle.cc_tool.proofs.entries.Entries.set_last.Goals as goal

pub invariant_of-self : goal.invariant_of-self
invariant_of-self c = λ d. c.self.invariant d ∙ ap if_any (sym (places_set 0 d c.self.inside.list.items _ c.index_mut.result.now c.set_verdict.new.entry c.index_mut.ensures.value (ap (λ (o : Answer). o.0) c.set_verdict.ensures)))

pub returns-then-count-gt0 : goal.returns-then-count-gt0
returns-then-count-gt0 c = λ known a e. set_last c.self.inside.list.items known a c.index_mut.result.now c.set_verdict.new.entry c.args.verdict _ (ap (λ (l : Listed). l.items) c.self.view_is ∙ e) (cc) c.index_mut.ensures.value c.set_verdict.ensures
