use Rattle.std.proofs.Common.{[], ◌∷◌, ◌++◌, codes, ap, ◌∙◌}
use Rattle.cc_flags.specs.Wanted.{branch_protection_word}
use Rattle.cc_flags.proofs.wanted.push_branch_protection_word.Goals as goal

pub returns : goal.returns
unfolding branch_protection_word
returns c =
    c.in_ok-push_joined.ensures.ok ∙ ap (λ value. c.args.words.now ++ (codes "-mbranch-protection=" ++ value) ∷ []) (c.as_str.ensures ∙ c.in_ok-value.ensures)
