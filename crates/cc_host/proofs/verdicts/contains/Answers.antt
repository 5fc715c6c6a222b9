use Rattle.std.proofs.Common.{◌∙◌}
use Rattle.cc_host.proofs.VerdictLemmas.{found_within}
use Rattle.cc_host.proofs.verdicts.contains.Goals as goal

pub returns : goal.returns
returns c = c.is_some.ensures ∙ found_within c.args.bytes.now c.args.needle.now c.find.result (rw c.as_bytes.ensures.value at c.find.ensures)
