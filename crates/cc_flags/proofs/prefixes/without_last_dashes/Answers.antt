use Rattle.std.proofs.Common.{rules, ◌≡◌, ◌∙◌, Some, None, sym, ap, codes}
use Rattle.std.specs.Option.{option_copied}
use Rattle.cc_text.specs.Cuts.{before_suffix}
use Rattle.cc_flags.proofs.CutTextLemmas.{dash_cut, dash_shorter, dash_none}
use Rattle.cc_flags.proofs.prefixes.without_last_dashes.Goals as goal

pub loop-before-smaller : goal.loop-before-smaller
loop-before-smaller c =
    let e : before_suffix c.loop-before.rest.now (codes "-") ≡ Some c.in-Some.before.now = sym c.before_suffix.ensures ∙ ap option_copied c.in-Some.is in
    dash_shorter _ _ e

pub loop-before-preserved : goal.loop-before-preserved
loop-before-preserved c =
    let e : before_suffix c.loop-before.rest.now (codes "-") ≡ Some c.in-Some.before.now = sym c.before_suffix.ensures ∙ ap option_copied c.in-Some.is in
    (search rules, sym (dash_cut _ _ e) ∙ c.loop-before.invariant.1)

pub returns : goal.returns
returns c =
    let e : before_suffix c.loop-before.rest.now (codes "-") ≡ None = sym c.before_suffix.ensures ∙ ap option_copied c.in_default.is in
    sym (dash_none _ e) ∙ c.loop-before.invariant.1
