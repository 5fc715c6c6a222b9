use Rattle.cc_text.proofs.WithinLemmas.{within_from_subslice}
use Rattle.cc_tool.proofs.family.has_either.Goals as goal

pub returns : goal.returns
returns c = within_from_subslice _ _ _ c.contains_ignore_ascii_case.ensures
