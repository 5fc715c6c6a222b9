use Rattle.std.proofs.Common.{sym, subst, ◌∙◌, true≢false}
use Rattle.std.specs.Path.{PathStartsWith}
use Rattle.cc_text.proofs.PrefixLemmas.{stripped, not_stripped, parts_passed}
use Rattle.cc_text.proofs.prefix.strip_prefix.Goals as goal

pub returns-then-not-starts_with : goal.returns-then-not-starts_with
returns-then-not-starts_with c = not_stripped c.args.path.now c.args.base.now (λ begins.
    true≢false (sym (c.starts_with.ensures.1 (subst (λ path. PathStartsWith path c.args.base.now) (sym c.new.ensures) begins)) ∙ c.if-not-starts_with.true))

pub returns : goal.returns
returns c =
    let rest_is = parts_passed _ _ _ c.loop-part.rest.now _ c.in-None.is c.next.ensures.steps c.loop-part.invariant.0 in
    let begins = subst (λ path. PathStartsWith path c.args.base.now) c.new.ensures (c.starts_with.ensures.0 c.if-not-starts_with.false) in
    stripped c.args.path.now c.args.base.now c.loop-part.rest.now begins rest_is
