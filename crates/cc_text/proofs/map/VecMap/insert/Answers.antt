use Rattle.std.proofs.Common.{◌≡◌, ◌++◌, [], ◌∷◌, length, sym, ap, subst, ◌∙◌, arith, None, is_some, true≢false}
use Rattle.std.specs.List.{position}
use Rattle.cc_text.specs.Map.{HasDistinctKeys, is_key, with_value_at}
use Rattle.cc_text.proofs.PositionLemmas.{place_is}
use Rattle.cc_text.proofs.MapLemmas.{set_is, distinct_added, with_pair_at, with_pair_added, no_value}
use Rattle.cc_text.proofs.map.VecMap.insert.Goals as goal

pub returns-in-Some-clause-ok : goal.returns-in-Some-clause-ok
returns-in-Some-clause-ok g c =
    let pairs = c.self.inside.entries.items in
    let within = place_is (is_key g.K.PartialEq.eq c.args.key) c.args.self.now c.in-Some.place c.in-Some.ensures in
    set_is pairs c.in-Some.place c.index_mut.result.now c.args.value (omega (arith, within.0, ap length c.self.view_is)) c.index_mut.ensures.value
    ∙ ap (λ m. with_value_at m c.in-Some.place c.args.value) c.self.view_is
    ∙ with_pair_at g.K.PartialEq.eq c.args.self.now c.args.key c.args.value c.in-Some.place c.in-Some.ensures

pub returns-in_err-push-in-None-clause-there : goal.returns-in_err-push-in-None-clause-there
returns-in_err-push-in-None-clause-there g c there =
    let none = no_value g.K.PartialEq.eq c.args.self.now c.args.key c.in-None.ensures in
    absurd (true≢false (sym there ∙ ap is_some (sym none)))

pub invariant_of-self-in-None : goal.invariant_of-self-in-None
invariant_of-self-in-None g c =
    let pairs = c.self.inside.entries.items in
    let none : None ≡ position (is_key g.K.PartialEq.eq c.args.key) pairs = rw c.self.view_is c.in-None.ensures in
    subst (HasDistinctKeys g.K.PartialEq.eq) (sym c.in_ok-push-in-None.ensures.items) (distinct_added g.K.PartialEq.eq pairs c.args.key c.args.value none c.self.invariant)

pub returns-in_ok-push-in-None-clause-ok : goal.returns-in_ok-push-in-None-clause-ok
returns-in_ok-push-in-None-clause-ok g c =
    c.in_ok-push-in-None.ensures.items
    ∙ ap (λ m. m ++ (c.args.key, c.args.value) ∷ []) c.self.view_is
    ∙ with_pair_added g.K.PartialEq.eq c.args.self.now c.args.key c.args.value c.in-None.ensures
