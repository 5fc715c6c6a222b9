use Rattle.std.proofs.Common.{refl, sym, ◌∙◌, inl}
use Rattle.cc_text.proofs.MapLemmas.{with_pair_at, value_at, no_value}
use Rattle.cc_text.proofs.map.VecMap.get_mut.Goals as goal

pub returns-in-Some : goal.returns-in-Some
returns-in-Some g c = (
  (λ i. inl (c.value_mut_at.result.ghost_name, λ w. with_pair_at g.K.PartialEq.eq c.args.self.now c.args.key.now w c.in-Some.place c.in-Some.ensures i)),
  record { writes_back = tt; value = sym c.value_mut_at.ensures.value ∙ value_at g.K.PartialEq.eq c.args.self.now c.args.key.now c.in-Some.place c.in-Some.ensures },
)

pub returns-in-None : goal.returns-in-None
returns-in-None g c = (refl, record { writes_back = tt; value = no_value g.K.PartialEq.eq c.args.self.now c.args.key.now c.in-None.ensures })
