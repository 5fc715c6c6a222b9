use Rattle.std.proofs.lemmas.Grind.{common_steps}
use Rattle.std.proofs.Common.{arith, ◌≡◌, ◌≢◌, ◌<◌, ◌≤◌, ◌∙◌, [], List, length, IfOk, ap, sym, subst, nat_eq}
use Rattle.cc_build.specs.Seen.{stages_seen}
use Rattle.cc_build.specs.Stage.{Stage, beside}
use Rattle.cc_build.proofs.OpeningLaws.{nothing_in, some_beside, one_beside, more_beside, whichever}
use Rattle.cc_build.proofs.compiles.stages_beside.Goals as goal

pub returns-then-is_empty-clause-planned : goal.returns-then-is_empty-clause-planned
returns-then-is_empty-clause-planned c = ap stages_seen c.new.ensures.items ∙ sym (ap beside (nothing_in c.args.cmds.items c.is_empty.result (c.is_empty.ensures ∙ ap (λ n. nat_eq n 0) c.args.cmds.ok.0) c.if-is_empty.true))

pub invariant_of-push : goal.invariant_of-push
invariant_of-push c = record {
  several = omega (arith, c.if-len-lt2.false);
}

pub returns-in_err-push-clause-wanted : goal.returns-in_err-push-clause-wanted
returns-in_err-push-clause-wanted c = whichever (beside c.args.cmds.items ≢ []) c.from_residual.result (some_beside c.args.cmds.items c.is_empty.result (c.is_empty.ensures ∙ ap (λ n. nat_eq n 0) c.args.cmds.ok.0) c.if-is_empty.false)

pub returns-then-len-lt2-clause-wanted : goal.returns-then-len-lt2-clause-wanted
returns-then-len-lt2-clause-wanted c = whichever (beside c.args.cmds.items ≢ []) c.alone.result (some_beside c.args.cmds.items c.is_empty.result (c.is_empty.ensures ∙ ap (λ n. nat_eq n 0) c.args.cmds.ok.0) c.if-is_empty.false)

pub returns-then-len-lt2-clause-planned : goal.returns-then-len-lt2-clause-planned
returns-then-len-lt2-clause-planned c =
    let few : length c.args.cmds.items < 2 = omega (arith, c.if-len-lt2.true, c.len.ensures, c.args.cmds.ok.0) in
    subst (λ (l : List Stage). IfOk c.alone.result (λ stages. stages_seen stages.items ≡ l)) (one_beside c.args.cmds.items few) c.alone.ensures

pub returns-clause-planned : goal.returns-clause-planned
returns-clause-planned c =
    let many : 2 ≤ length c.args.cmds.items = omega (arith, c.if-len-lt2.false, c.len.ensures, c.args.cmds.ok.0) in
    let one = more_beside c.args.cmds.items many in
    rw (← one) (grind (arith, common_steps, c.in_ok-push.ensures.items, c.new-stages.ensures.items))
