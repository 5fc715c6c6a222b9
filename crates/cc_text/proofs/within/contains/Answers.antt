use Rattle.std.proofs.lemmas.Str.Pattern.{contains_text}
use Rattle.cc_text.proofs.WithinLemmas.{within_from_subslice}
use Rattle.cc_text.proofs.within.contains.Goals as goal

pub returns : goal.returns
returns c = within_from_subslice c.contains.result c.args.needle.now c.args.text.now (contains_text c.contains.result c.args.needle.now c.args.text.now c.contains.ensures.cases)
