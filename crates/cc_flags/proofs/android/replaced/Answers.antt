use Rattle.std.proofs.Common.{rules, ◌∙◌, ◌++◌, sym, ap, append_assoc, arith}
use Rattle.cc_flags.specs.AndroidNames.{replaced}
use Rattle.cc_flags.proofs.CutTextLemmas.{needle_at, needle_none}
use Rattle.cc_flags.proofs.android.replaced.Goals as goal

pub loop-before-preserved : goal.loop-before-preserved
loop-before-preserved c =
    let s = c.in-Some.ensures.cases in
    let n = needle_at c.args.needle.now c.args.to.now c.loop-before.rest.now c.in-Some.before.now c.in-Some.after.now s.0 s.1 c.requires s.2 s.3 s.4 (omega (arith, s.5, s.7)) in
    (search rules, ap (λ t. t ++ replaced c.args.needle.now c.args.to.now c.in-Some.after.now) (c.in_ok-push_str-2.ensures.ok ∙ ap (λ t. t ++ c.args.to.now) c.in_ok-push_str.ensures.ok) ∙ append_assoc _ c.args.to.now _ ∙ append_assoc c.loop-before.out _ _ ∙ ap (λ t. c.loop-before.out ++ t) (sym n) ∙ c.loop-before.invariant.1)

pub returns : goal.returns
returns c = c.in_ok-push_str-3.ensures.ok ∙ ap (λ t. c.loop-before.out ++ t) (sym (needle_none c.args.needle.now c.args.to.now c.loop-before.rest.now c.in_default.ensures.cases)) ∙ c.loop-before.invariant.1
