use Rattle.std.proofs.Common.{◌≡◌, take, find, option_map, ap, sym, ◌∙◌, refl, arith}
use Rattle.std.proofs.lemmas.Grind.{common_steps}
use Rattle.cc_host.specs.Question.{exists_question}
use Rattle.cc_tool.specs.Plans.{says_yes, done, seek}
use Rattle.cc_tool.specs.Seeking.{by_first, first_shown}
use Rattle.cc_tool.proofs.PassLemmas.{pass_ok, pass_err, pass_done}
use Rattle.cc_tool.proofs.SeenLemmas.{known_there, known_off, wants_known, pass_search, nowhere}
use Rattle.cc_tool.proofs.seeking.first_shown.Goals as goal

pub returns-in-Some-true : goal.returns-in-Some-true
unfolding first_shown
returns-in-Some-true c =
    rw c.in_ok-try_clone-in-Some-true.ensures
    (pass_ok (seek by_first c.args.pairs.now) (λ found. done (option_map (λ p. p.1) found))
    (known_there by_first c.args.seen.now c.args.notes.now c.args.pairs.now c.loop-place.place c.index-pairs-place.result _ c.in_ok-known_there.field-0 c.in-Some-true.field-0 (omega arith) c.index-pairs-place.is c.in_ok-known_there.ensures (ap exists_question c.as_str.ensures) c.in-Some-true.is c.in-Some-true.field-0-test c.loop-place.invariant)
    pass_done)

pub returns-in-None : goal.returns-in-None
unfolding first_shown
returns-in-None c =
    pass_err (seek by_first c.args.pairs.now) (λ found. done (option_map (λ p. p.1) found))
    (pass_search c.wanted_of.result _ c.wanted_of.ensures.first c.wanted_of.ensures.from (c.wanted_of.ensures.questions ∙ c.in_ok-exists_from_pairs-in-None.ensures)
    (wants_known by_first c.args.seen.now c.args.pairs.now c.loop-place.place c.index-pairs-place.result _ c.in_ok-known_there.field-0 _ (λ y. refl) (omega arith) c.index-pairs-place.is c.in_ok-known_there.ensures (ap exists_question c.as_str.ensures) c.in-None.is c.loop-place.invariant refl))

pub loop-place-preserved : goal.loop-place-preserved
loop-place-preserved c = known_off by_first c.args.seen.now c.args.pairs.now c.loop-place.place c.index-pairs-place.result _ c.in_ok-known_there.field-0 c.in-Some-false.field-0 c.index-pairs-place.is c.in_ok-known_there.ensures (ap exists_question c.as_str.ensures) c.in-Some-false.is c.in-Some-false.field-0-test c.loop-place.invariant

pub returns : goal.returns
unfolding first_shown
returns c =
    let whole : take c.loop-place.place c.args.pairs.now ≡ c.args.pairs.now = grind (arith, common_steps) in
    pass_ok (seek by_first c.args.pairs.now) (λ found. done (option_map (λ p. p.1) found))
    (nowhere by_first c.args.seen.now c.args.notes.now c.args.pairs.now (record { is = λ look a. ap (find (says_yes by_first look)) (sym whole) ∙ c.loop-place.invariant.is look a }))
    pass_done
