use Rattle.std.proofs.Common.{◌≡◌, map, take, ap, sym, ◌∙◌, arith}
use Rattle.std.proofs.lemmas.Grind.{common_steps}
use Rattle.cc_tool.proofs.SeenLemmas.{one_known, seen_all, wants_rest}
use Rattle.cc_tool.proofs.verdicts.verdicts_of.Goals as goal

pub loop-place-preserved : goal.loop-place-preserved
loop-place-preserved c = one_known c.args.seen.now c.args.questions.items c.loop-place.place c.index.result.now _ c.loop-place.verdicts _ (omega arith) c.index.ensures c.in-Some.ensures c.in_ok-push-in-Some.ensures c.loop-place.invariant

pub returns-in-None : goal.returns-in-None
returns-in-None c = record { answers = wants_rest c.args.seen.now c.args.questions.items c.loop-place.place c.index.result.now (omega arith) c.index.ensures c.requires c.in-None.ensures }

pub returns : goal.returns
returns c =
    let whole : take c.loop-place.place c.args.questions.items ≡ c.args.questions.items = grind (arith, common_steps) in
    seen_all c.args.seen.now c.args.notes.now c.args.questions.items c.loop-place.verdicts (record { is = λ look a. ap (map look) (sym whole) ∙ c.loop-place.invariant.is look a })
