use Rattle.cc_text.proofs.WithinLemmas.{within_from_subslice}
use Rattle.cc_plan.proofs.libtool.names_libtool.Goals as goal

pub returns : goal.returns
returns c = within_from_subslice _ _ _ c.contains_ignore_ascii_case.ensures
