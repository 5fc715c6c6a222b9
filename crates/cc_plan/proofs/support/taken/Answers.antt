use Rattle.std.proofs.Common.{◌≡◌, [], drop, arith}
use Rattle.std.proofs.lemmas.Grind.{common_steps}
use Rattle.cc_plan.proofs.TakenLemmas.{taken_all, taken_behind}
use Rattle.cc_plan.proofs.support.taken.Goals as goal
use Rattle.cc_plan.proofs.support.taken.Goals.{else-loop-place-test, then-loop-place-test+then-place-verdicts}

pub returns : goal.returns
returns c =
    elim c.loop-place-test.branch [
      | else-loop-place-test w ↦
          let none : drop c.loop-place.place c.args.words.now ≡ [] = grind (arith, common_steps, w.loop-place-test.false) in
          taken_behind c.loop-place.taken _ c.args.words.now c.args.verdicts.now c.loop-place.place none c.loop-place.invariant
      | then-loop-place-test+then-place-verdicts w ↦
          let none : drop c.loop-place.place c.args.verdicts.now ≡ [] = grind (arith, common_steps, w.if-place-verdicts.true) in
          taken_all c.loop-place.taken _ c.args.words.now c.args.verdicts.now c.loop-place.place none c.loop-place.invariant
    ]
