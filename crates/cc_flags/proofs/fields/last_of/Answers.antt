use Rattle.std.proofs.Common.{rules, ap, ◌∙◌}
use Rattle.std.proofs.lemmas.Iterator.Adapters.{YieldsList-from_rev_slice}
use Rattle.std.proofs.lemmas.Iterator.Search.{find_from_yields_List}
use Rattle.std.specs.Slice.Iter.{iter_rest}
use Rattle.cc_text.specs.Words.{texts}
use Rattle.cc_text.specs.Words.{is_one_of}
use Rattle.cc_flags.specs.Fields.{last_of}
use Rattle.cc_flags.proofs.fields.last_of.Goals as goal

pub returns : goal.returns
unfolding last_of
returns c =
    find_from_yields_List (λ p. is_one_of (texts c.args.keys.now) p.key) _ _ _ c.find.ensures.ran
    (YieldsList-from_rev_slice c.args.pairs.now (ap iter_rest c.rev.ensures.source ∙ c.iter.ensures.rest)) (λ x b q k. search rules)
