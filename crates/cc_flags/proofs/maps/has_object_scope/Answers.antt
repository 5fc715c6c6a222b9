use Rattle.std.proofs.Common.{lit<, rules, tests}
use Rattle.std.proofs.lemmas.Iterator.Search.{any_from_yields_List}
use Rattle.std.proofs.lemmas.Iterator.Splits.{YieldsList-from_str_split}
use Rattle.cc_flags.specs.MapWords.{is_object_scope}
use Rattle.cc_flags.proofs.maps.has_object_scope.Goals as goal

pub returns : goal.returns
returns c =
    any_from_yields_List is_object_scope _ _ _ c.any.ensures.ran
    (YieldsList-from_str_split 44 c.args.scopes.now (lit< tt) c.split.ensures.text c.split.ensures.has_more c.split.ensures.pattern)
    (λ x b q k. search (rules, tests))
