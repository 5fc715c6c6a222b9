use Rattle.std.proofs.Common.{ℕ}
use Rattle.std.specs.Ordering.{nat_cmp}
use Rattle.std.specs.BTreeMap.{get}
use Rattle.cc_tool.proofs.PlacesLemmas.{shrunk}
use Rattle.cc_tool.proofs.entries.Entries.pop.Goals as goal

pub invariant_of-self : goal.invariant_of-self
invariant_of-self c = shrunk c.pop.new.self.items c.self.inside.list.items (c.in-Some.question, c.in-Some.field-0-1) c.question_digest.result (λ (d : ℕ). get nat_cmp c.self.inside.index d) (λ (d : ℕ). get nat_cmp c.drop_place.new.index d) c.in-Some.ensures.items c.question_digest.ensures c.self.invariant c.drop_place.ensures.here c.drop_place.ensures.others

pub invariant_of-self-in-Some-2 : goal.invariant_of-self-in-Some-2
invariant_of-self-in-Some-2 c = shrunk c.pop.new.self.items c.self.inside.list.items (c.in-Some.question, c.in-Some.field-0-1) c.question_digest.result (λ (d : ℕ). get nat_cmp c.self.inside.index d) (λ (d : ℕ). get nat_cmp c.drop_place.new.index d) c.in-Some.ensures.items c.question_digest.ensures c.self.invariant c.drop_place.ensures.here c.drop_place.ensures.others
