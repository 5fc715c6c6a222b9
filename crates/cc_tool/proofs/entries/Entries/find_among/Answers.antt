use Rattle.std.proofs.Common.{◌∙◌, ℕ, ap, refl, arith, get_or}
use Rattle.std.proofs.lemmas.Grind.{common_steps}
use Rattle.cc_tool.specs.Places.{Listed, places_from}
use Rattle.cc_tool.proofs.KnownLemmas.{isnt}
use Rattle.cc_tool.proofs.PlacesLemmas.{absent, stands, first_found, none_more_at, places_bound}
use Rattle.cc_tool.proofs.entries.Entries.find_among.Goals as goal

pub index-entry-requires : goal.index-entry-requires
index-entry-requires c =
    let es = c.args.self.now.items in
    let are = c.as_slice-place-items.ensures ∙ c.requires ∙ ap (λ (d : ℕ). places_from 0 d es) c.args.key.now.digests in
    let less = places_bound c.self.inside.list.items es (ap (λ (l : Listed). l.items) c.self.view_is) c.as_slice-place-items.result.now c.args.key.now.question.now c.loop-place.place-index are c.loop-place-test.true in
    grind (arith, common_steps, less)

pub returns-then-same_as : goal.returns-then-same_as
returns-then-same_as c =
    let es = c.args.self.now.items in
    let q = c.args.key.now.question.now in
    let places = c.as_slice-place-items.result.now in
    let x = c.index-entry.result.now in
    let are = c.as_slice-place-items.ensures ∙ c.requires ∙ ap (λ (d : ℕ). places_from 0 d es) c.args.key.now.digests in
    first_found es q places c.loop-place.place-index x are c.loop-place.invariant (stands es places q c.loop-place.place-index x are c.loop-place-test.true (c.index-entry.ensures ∙ ap (λ (l : Listed). get_or l.items (get_or places c.loop-place.place-index 0) x) c.self.view_is)) (c.if-same_as.ensures.0 refl)

pub loop-place-preserved : goal.loop-place-preserved
loop-place-preserved c =
    let es = c.args.self.now.items in
    let q = c.args.key.now.question.now in
    let places = c.as_slice-place-items.result.now in
    let x = c.index-entry.result.now in
    let are = c.as_slice-place-items.ensures ∙ c.requires ∙ ap (λ (d : ℕ). places_from 0 d es) c.args.key.now.digests in
    none_more_at es places q c.loop-place.place-index x c.loop-place.invariant (stands es places q c.loop-place.place-index x are c.loop-place-test.true (c.index-entry.ensures ∙ ap (λ (l : Listed). get_or l.items (get_or places c.loop-place.place-index 0) x) c.self.view_is)) (isnt c.if-same_as.ensures)

pub returns : goal.returns
returns c =
    let es = c.args.self.now.items in
    let done = c.loop-place-test.false in
    let are = c.as_slice-place-items.ensures ∙ c.requires ∙ ap (λ (d : ℕ). places_from 0 d es) c.args.key.now.digests in
    absent es c.args.key.now.question.now c.as_slice-place-items.result.now c.loop-place.place-index are (λ l. absurd (omega (arith, done, l))) c.loop-place.invariant
