use Rattle.std.proofs.Common.{◌≡◌, ◌<◌, Some, None, length, get_or, sym, ap, ◌∙◌, arith}
use Rattle.std.proofs.lemmas.List.{at_drop_all}
use Rattle.cc_env.specs.Names.{single_of, set_values, first_of, target_names}
use Rattle.cc_env.specs.Snapshot.{last_value}
use Rattle.cc_env.proofs.LookupLemmas.{set_here, unset_here, no_values}
use Rattle.cc_env.proofs.lookup.single.Goals as goal

pub returns-in-Some : goal.returns-in-Some
unfolding single_of
returns-in-Some c =
    let env = c.args.env.now in
    let names = c.as_slice-name-items.result.now in
    let place = c.loop-name.name-index in
    let name = c.as_str.result.now in
    let all : names ≡ target_names c.args.var.now c.args.target.now c.args.host.now = grind arith in
    let within : place < length names = grind (arith, c.loop-name-test.true) in
    let is : name ≡ get_or names place name = grind (arith, c.name-item.is) in
    let found : Some c.in-Some.value.now ≡ last_value env name = grind (arith, c.in-Some.ensures) in
    let value : c.in_ok-of.field-0 ≡ c.in-Some.value.now = grind (arith, c.in_ok-of.ensures) in
    ap (λ v. Some v) value
    ∙ ap first_of (sym (set_here env names place name c.in-Some.value.now within is found) ∙ c.loop-name.invariant ∙ ap (set_values env) all)

pub loop-name-preserved : goal.loop-name-preserved
loop-name-preserved c =
    let env = c.args.env.now in
    let names = c.as_slice-name-items.result.now in
    let place = c.loop-name.name-index in
    let name = c.as_str.result.now in
    let within : place < length names = grind (arith, c.loop-name-test.true) in
    let is : name ≡ get_or names place name = grind (arith, c.name-item.is) in
    let unset : None ≡ last_value env name = grind (arith, c.in_default.ensures) in
    sym (unset_here env names place name within is unset) ∙ c.loop-name.invariant

pub returns : goal.returns
unfolding single_of
returns c =
    let env = c.args.env.now in
    let names = c.as_slice-name-items.result.now in
    let all : names ≡ target_names c.args.var.now c.args.target.now c.args.host.now = grind arith in
    ap first_of (sym (no_values env) ∙ sym (at_drop_all (set_values env) names c.loop-name.name-index (grind (arith, c.loop-name-test.false))) ∙ c.loop-name.invariant ∙ ap (set_values env) all)
