use Rattle.cc_text.proofs.WithinLemmas.{within_from_subslice}
use Rattle.cc_plan.proofs.lib_form.names_llvm_ar.Goals as goal

pub returns : goal.returns
returns c = within_from_subslice _ _ _ c.contains_ignore_ascii_case.ensures
