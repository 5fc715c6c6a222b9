use Rattle.cc_text.proofs.WithinLemmas.{within_from_subslice}
use Rattle.cc_flags.proofs.compiler_names.has_ignoring_case.Goals as goal

pub returns : goal.returns
returns c = within_from_subslice _ _ _ c.contains_ignore_ascii_case.ensures
