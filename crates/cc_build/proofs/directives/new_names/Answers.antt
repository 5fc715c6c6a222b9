use Rattle.std.proofs.Common.{ℕ, List, [], ◌∷◌, ◌++◌, ◌∙◌, ap, arith}
use Rattle.cc_text.specs.Words.{when}
use Rattle.cc_build.proofs.FirstLaws.{chosen_more}
use Rattle.cc_build.proofs.directives.new_names.Goals as goal

pub loop-name-preserved : goal.loop-name-preserved
loop-name-preserved g c =
    let so = c.loop-name.invariant in
    let more = chosen_more so.0 c.args.names.now c.loop-name.printed c.loop-name.name-index c.in_ok-is_new.is_new c.name-item.result (omega arith) c.name-item.is so.1.0 so.1.1 in
    (more.0, (more.1.0, c.in_ok-push_if.ensures ∙ ap (λ (n : List ℕ). c.loop-name.printed ++ when c.in_ok-is_new.is_new (n ∷ [])) c.as_str-name.ensures ∙ more.1.1))
