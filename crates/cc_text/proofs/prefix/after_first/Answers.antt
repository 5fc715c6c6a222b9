use Rattle.std.proofs.Common.{Some, None, ◌∙◌, arith}
use Rattle.std.proofs.lemmas.Str.Pattern.{split_parts}
use Rattle.cc_text.proofs.PrefixLemmas.{after_split, after_whole}
use Rattle.cc_text.proofs.prefix.after_first.Goals as goal

pub returns-in-Some : goal.returns-in-Some
returns-in-Some c =
    let split = split_parts 47 _ (Some (c.in-Some.field-0-0, c.in-Some.rest)) c.in-Some.ensures.cases (omega arith) in
    c.skip_leading.ensures ∙ after_split _ _ _ split.0 split.1

pub returns-in-None : goal.returns-in-None
returns-in-None c = after_whole _ (split_parts 47 _ None c.in-None.ensures.cases (omega arith))
