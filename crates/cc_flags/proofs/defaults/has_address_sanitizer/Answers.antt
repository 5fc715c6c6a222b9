use Rattle.std.proofs.Common.{lit<, rules, tests}
use Rattle.std.proofs.lemmas.Iterator.Search.{any_from_yields_List}
use Rattle.std.proofs.lemmas.Iterator.Splits.{YieldsList-from_str_split}
use Rattle.cc_flags.specs.DefaultWords.{has_address_sanitizer}
use Rattle.cc_flags.specs.Texts.{is}
use Rattle.cc_flags.proofs.defaults.has_address_sanitizer.Goals as goal

pub returns : goal.returns
unfolding has_address_sanitizer
returns c =
    any_from_yields_List (λ name. is name "address") _ _ _ c.any.ensures.ran
    (YieldsList-from_str_split 44 c.args.sanitizers.now (lit< tt) c.split.ensures.text c.split.ensures.has_more c.split.ensures.pattern)
    (λ x b q k. search (rules, tests))
