use Rattle.std.proofs.Common.{◌≡◌, List, ℕ, Some, sym, ◌∙◌, ap₂, subst, cond, bytes_eq, length, string_bytes}
use Rattle.std.proofs.lemmas.Map.Text.{btree_map_updates_text}
use Rattle.std.specs.BTreeMap.{get_by_text}
use Rattle.cc_text.proofs.MapLemmas.{with_pair_at, with_pair_added}
use Rattle.cc_env.specs.Index.{IsIndexed, place_in}
use Rattle.cc_env.proofs.IndexLemmas.{indexed_set, indexed_added}
use Rattle.cc_env.proofs.index.put.Goals as goal

pub returns-in_ok-set_at-in-Some-clause-value : goal.returns-in_ok-set_at-in-Some-clause-value
returns-in_ok-set_at-in-Some-clause-value c =
    c.in_ok-set_at-in-Some.ensures.ok
    ∙ with_pair_at bytes_eq c.args.vars.now c.args.name.now c.args.value.now c.in-Some.place (c.in-Some.ensures ∙ c.requires.places_is c.args.name.now)

pub returns-in_ok-set_at-in-Some-clause-indexed : goal.returns-in_ok-set_at-in-Some-clause-indexed
returns-in_ok-set_at-in-Some-clause-indexed c =
    subst (λ vars. IsIndexed vars (place_in c.args.base.now c.args.more.now)) (sym c.in_ok-set_at-in-Some.ensures.ok)
    (indexed_set (get_by_text c.args.base.now) (get_by_text c.args.more.now) c.args.vars.now c.in-Some.place c.args.name.now c.args.value.now c.requires c.in-Some.ensures)

pub returns-in_ok-push-in-None-clause-value : goal.returns-in_ok-push-in-None-clause-value
returns-in_ok-push-in-None-clause-value c =
    c.in_ok-push-in-None.ensures.ok
    ∙ with_pair_added bytes_eq c.args.vars.now c.args.name.now c.args.value.now (c.in-None.ensures ∙ c.requires.places_is c.args.name.now)

pub returns-in_ok-push-in-None-clause-indexed : goal.returns-in_ok-push-in-None-clause-indexed
returns-in_ok-push-in-None-clause-indexed c =
    let key : string_bytes c.in_ok-from_str-in-None.field-0 ≡ c.args.name.now = c.in_ok-from_str-in-None.ensures.ok in
    let noted : (text : List ℕ) → get_by_text c.insert.new.self text ≡ cond (bytes_eq c.args.name.now text) (Some (length c.args.vars.now)) (get_by_text c.args.more.now text) = λ text.
    btree_map_updates_text (string_bytes c.in_ok-from_str-in-None.field-0) c.args.more.now c.insert.new.self _ c.in_ok-insert-in-None.ensures.updates text
    ∙ ap₂ (λ key place. cond (bytes_eq key text) (Some place) (get_by_text c.args.more.now text)) key c.len.ensures in
    subst (λ vars. IsIndexed vars (place_in c.args.base.now c.insert.new.self)) (sym c.in_ok-push-in-None.ensures.ok)
    (indexed_added (get_by_text c.args.base.now) (get_by_text c.args.more.now) c.args.vars.now (get_by_text c.insert.new.self) c.args.name.now c.args.value.now c.requires c.in-None.ensures noted)
