use Rattle.std.proofs.Common.{◌≡◌, ◌+◌, ◌-◌, ◌<◌, ◌∷◌, ◌++◌, [], Some, None, true, false, flat_map, reverse, length, get_or, drop, nat_lt, sym, ap, ◌∙◌, arith, lt-ltb}
use Rattle.std.proofs.lemmas.List.{at_drop_all}
use Rattle.cc_env.specs.Names.{flags_of, flags_in, flag_words, set_values, target_names}
use Rattle.cc_env.specs.Snapshot.{last_value}
use Rattle.cc_env.proofs.LookupLemmas.{set_here, unset_here, no_values, words_more, answer}
use Rattle.cc_env.proofs.lookup.flags_of.Goals as goal

pub loop-left-init : goal.loop-left-init
loop-left-init c =
    let env = c.args.env.now in
    let names = c.as_slice-names.result.now in
    let none : set_values env (drop (length names) names) ≡ [] = at_drop_all (set_values env) names (length names) (omega arith) ∙ no_values env in
    record {
      within = omega arith;
      found = ap (λ values. nat_lt 0 (length values)) (sym none);
      words = c.new-words.ensures ∙ ap (λ values. flat_map (flag_words c.args.shell) (reverse values)) (sym none);
    }

pub loop-left-preserved-in_ok-append : goal.loop-left-preserved-in_ok-append
loop-left-preserved-in_ok-append c =
    let env = c.args.env.now in
    let names = c.as_slice-names.result.now in
    let shell = c.args.shell in
    let left = c.loop-left.left in
    let name = c.as_str.result.now in
    let value = c.in-Some.value.now in
    let some : 0 < left = grind (arith, c.loop-left-test.true) in
    let within : left - 1 < length names = grind (arith, c.loop-left.invariant.within) in
    let is : name ≡ get_or names (left - 1) name = grind (arith, c.index-names-left.is) in
    let found : Some value ≡ last_value env name = grind (arith, c.in-Some.ensures) in
    let next : left - 1 + 1 ≡ left = omega arith in
    let rest = set_values env (drop left names) in
    let here : set_values env (drop (left - 1) names) ≡ value ∷ rest = set_here env names (left - 1) name value within is found ∙ ap (λ n. value ∷ set_values env (drop n names)) next in
    let added : c.append.new.self ≡ c.loop-left.words ++ flag_words shell value = grind (arith, c.in_ok-append.ensures.ok, c.in_ok-flag_words.ensures) in
    record {
      within = omega (arith, within);
      found = sym (ap (λ values. nat_lt 0 (length values)) here ∙ lt-ltb 0 (length (value ∷ rest)) (omega arith));
      words = added
          ∙ ap (λ words. words ++ flag_words shell value) c.loop-left.invariant.words
          ∙ sym (words_more shell rest value)
          ∙ ap (λ values. flat_map (flag_words shell) (reverse values)) (sym here);
    }

pub loop-left-preserved : goal.loop-left-preserved
loop-left-preserved c =
    let env = c.args.env.now in
    let names = c.as_slice-names.result.now in
    let left = c.loop-left.left in
    let name = c.as_str.result.now in
    let some : 0 < left = grind (arith, c.loop-left-test.true) in
    let within : left - 1 < length names = grind (arith, c.loop-left.invariant.within) in
    let is : name ≡ get_or names (left - 1) name = grind (arith, c.index-names-left.is) in
    let unset : None ≡ last_value env name = grind (arith, c.in_default.ensures) in
    let next : left - 1 + 1 ≡ left = omega arith in
    let here : set_values env (drop (left - 1) names) ≡ set_values env (drop left names) = unset_here env names (left - 1) name within is unset ∙ ap (λ n. set_values env (drop n names)) next in
    record {
      within = omega (arith, within);
      found = c.loop-left.invariant.found ∙ ap (λ values. nat_lt 0 (length values)) (sym here);
      words = c.loop-left.invariant.words ∙ ap (λ values. flat_map (flag_words c.args.shell) (reverse values)) (sym here);
    }

pub returns-then-found : goal.returns-then-found
unfolding flags_of
returns-then-found c =
    let env = c.args.env.now in
    let names = c.as_slice-names.result.now in
    let all : names ≡ target_names c.args.var.now c.args.target.now c.args.host.now = grind arith in
    let none_left : c.loop-left.left ≡ 0 = grind (arith, c.loop-left-test.false) in
    answer c.args.shell true (set_values env (drop c.loop-left.left names)) c.loop-left.words (sym c.if-found.true ∙ c.loop-left.invariant.found) c.loop-left.invariant.words
    ∙ ap (flags_in c.args.shell) (ap (λ n. set_values env (drop n names)) none_left ∙ ap (set_values env) all)

pub returns : goal.returns
unfolding flags_of
returns c =
    let env = c.args.env.now in
    let names = c.as_slice-names.result.now in
    let all : names ≡ target_names c.args.var.now c.args.target.now c.args.host.now = grind arith in
    let none_left : c.loop-left.left ≡ 0 = grind (arith, c.loop-left-test.false) in
    answer c.args.shell false (set_values env (drop c.loop-left.left names)) c.loop-left.words (sym c.if-found.false ∙ c.loop-left.invariant.found) c.loop-left.invariant.words
    ∙ ap (flags_in c.args.shell) (ap (λ n. set_values env (drop n names)) none_left ∙ ap (set_values env) all)
