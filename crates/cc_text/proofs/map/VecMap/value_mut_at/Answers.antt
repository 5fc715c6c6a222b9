use Rattle.std.proofs.Common.{◌<◌, length, refl, sym, ap, subst, ◌∙◌, arith, slice_get}
use Rattle.std.specs.Option.{option_map}
use Rattle.std.proofs.lemmas.Option.{slice_get_read}
use Rattle.cc_text.specs.Map.{with_value_at, HasDistinctKeys}
use Rattle.cc_text.proofs.MapLemmas.{set_is, distinct_kept}
use Rattle.cc_text.proofs.map.VecMap.value_mut_at.Goals as goal

pub invariant_of-self-lent : goal.invariant_of-self-lent
invariant_of-self-lent g c w =
    let pairs = c.self.inside.entries.items in
    let within : c.args.place < length pairs = omega (arith, c.requires, ap length c.self.view_is) in
    subst (HasDistinctKeys g.K.PartialEq.eq) (sym (set_is pairs c.args.place c.index_mut-pair.result.now w within c.index_mut-pair.ensures.value))
    (distinct_kept g.K.PartialEq.eq pairs c.args.place w c.self.invariant)

pub returns : goal.returns
returns g c =
    let pairs = c.self.inside.entries.items in
    let within : c.args.place < length pairs = omega (arith, c.requires, ap length c.self.view_is) in (
      (refl, λ w. set_is pairs c.args.place c.index_mut-pair.result.now w within c.index_mut-pair.ensures.value ∙ ap (λ m. with_value_at m c.args.place w) c.self.view_is),
      record {
        writes_back = tt;
        value = ap (λ m. option_map (λ (pair : g.row.K.Denot × g.row.V.Denot). pair.1) (slice_get m c.args.place)) (sym c.self.view_is) ∙ ap (option_map (λ (pair : g.row.K.Denot × g.row.V.Denot). pair.1)) (slice_get_read pairs (length pairs) c.args.place c.index_mut-pair.result.now refl within c.index_mut-pair.ensures.value);
      },
    )
