use Rattle.std.proofs.Common.{◌≡◌, take, find, ap, sym, ◌∙◌, refl, arith}
use Rattle.std.proofs.lemmas.Grind.{common_steps}
use Rattle.cc_host.specs.Question.{exists_question}
use Rattle.cc_tool.specs.Plans.{says_yes}
use Rattle.cc_tool.proofs.SeenLemmas.{known_there, known_off, wants_known, pass_search, nowhere}
use Rattle.cc_tool.proofs.seeking.first_there.Goals as goal

pub returns-in-Some-true : goal.returns-in-Some-true
returns-in-Some-true c =
    rw c.in_ok-try_clone-in-Some-true.ensures
    (known_there exists_question c.args.seen.now c.args.notes.now c.args.paths.now c.loop-place.place c.index-paths-place.result _ c.in_ok-known_there.field-0 c.in-Some-true.field-0 (omega arith) c.index-paths-place.is c.in_ok-known_there.ensures (ap exists_question c.as_str.ensures) c.in-Some-true.is c.in-Some-true.field-0-test c.loop-place.invariant)

pub returns-in-None : goal.returns-in-None
returns-in-None c =
    pass_search c.wanted_of.result _ c.wanted_of.ensures.first c.wanted_of.ensures.from (c.wanted_of.ensures.questions ∙ c.in_ok-exists_from-in-None.ensures)
    (wants_known exists_question c.args.seen.now c.args.paths.now c.loop-place.place c.index-paths-place.result _ c.in_ok-known_there.field-0 _ (λ y. refl) (omega arith) c.index-paths-place.is c.in_ok-known_there.ensures (ap exists_question c.as_str.ensures) c.in-None.is c.loop-place.invariant refl)

pub loop-place-preserved : goal.loop-place-preserved
loop-place-preserved c = known_off exists_question c.args.seen.now c.args.paths.now c.loop-place.place c.index-paths-place.result _ c.in_ok-known_there.field-0 c.in-Some-false.field-0 c.index-paths-place.is c.in_ok-known_there.ensures (ap exists_question c.as_str.ensures) c.in-Some-false.is c.in-Some-false.field-0-test c.loop-place.invariant

pub returns : goal.returns
returns c =
    let whole : take c.loop-place.place c.args.paths.now ≡ c.args.paths.now = grind (arith, common_steps) in
    nowhere exists_question c.args.seen.now c.args.notes.now c.args.paths.now (record { is = λ look a. ap (find (says_yes exists_question look)) (sym whole) ∙ c.loop-place.invariant.is look a })
