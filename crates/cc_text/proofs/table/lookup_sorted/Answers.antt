use Rattle.std.proofs.Common.{rules, IsTrue, ap, ◌∙◌}
use Rattle.std.specs.Ordering.{nat_cmp}
use Rattle.std.specs.Cmp.Lexicographic.{slice_cmp}
use Rattle.std.proofs.lemmas.Fn.{always_returns_same}
use Rattle.cc_text.specs.Vars.{lookup, names_ascend}
use Rattle.cc_text.proofs.TableLemmas.{names_rise, found_at, found_nowhere}
use Rattle.cc_text.proofs.table.lookup_sorted.Goals as goal

pub returns-in-Ok : goal.returns-in-Ok
returns-in-Ok c =
    let at_key = c.in-Ok.ensures.position (λ pair. slice_cmp nat_cmp pair.0 c.args.key.now) (always_returns_same _ _ _ (λ a r g called. search rules)) in
    let ascend : IsTrue (names_ascend c.as_slice-pairs.result.now) = rw c.as_slice-pairs.ensures c.requires in
    let found = found_at c.as_slice-pairs.result.now c.args.key.now c.in-Ok.place c.index-pairs-place.result ascend c.in-Ok.ensures.bound at_key in
    found ∙ ap (λ pairs. lookup pairs c.args.key.now) c.as_slice-pairs.ensures

pub returns-in-Err : goal.returns-in-Err
returns-in-Err c =
    let between = c.in-Err.ensures.position (λ pair. slice_cmp nat_cmp pair.0 c.args.key.now) (always_returns_same _ _ _ (λ a r g called. search rules)) in
    let ascend : IsTrue (names_ascend c.as_slice-pairs.result.now) = rw c.as_slice-pairs.ensures c.requires in
    let none = found_nowhere c.as_slice-pairs.result.now c.args.key.now c.in-Err.field-0 (between (names_rise c.as_slice-pairs.result.now c.args.key.now ascend)) in
    none ∙ ap (λ pairs. lookup pairs c.args.key.now) c.as_slice-pairs.ensures
