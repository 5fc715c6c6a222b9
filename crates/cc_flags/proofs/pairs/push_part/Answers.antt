use Rattle.std.proofs.Common.{[], ◌∷◌, ◌++◌, append_assoc, sym, ap, ◌∙◌}
use Rattle.std.specs.Option.{option_copied}
use Rattle.cc_flags.specs.Pairs.{pairs, left_of}
use Rattle.cc_flags.proofs.PairLemmas.{at_plain}
use Rattle.cc_flags.proofs.pairs.push_part.Goals as goal

pub returns-in_ok-push-in-None : goal.returns-in_ok-push-in-None
returns-in_ok-push-in-None c =
    let done = c.args.pairs.now.items in
    λ rest.
    ap (λ all. all ++ pairs rest) c.in_ok-push-in-None.ensures.items
    ∙ append_assoc done (c.in_ok-pair_of-in-None.field-0 ∷ []) (pairs rest)
    ∙ ap (λ pair. done ++ pair ∷ pairs rest) c.in_ok-pair_of-in-None.ensures
    ∙ ap (λ left. done ++ left) (sym (at_plain c.args.part.now rest (sym c.is_prefix.ensures ∙ c.if-is_prefix.false)))
    ∙ ap (λ pending. done ++ left_of (option_copied pending) (c.args.part.now ∷ rest)) (sym c.in-None.is)
