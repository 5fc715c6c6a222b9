use Rattle.cc_flags.specs.LibraryNames.{wasm_library_names}
use Rattle.cc_flags.proofs.library_names.push_wasm_library_names.Goals as goal

pub returns : goal.returns
unfolding wasm_library_names
returns c = cc c.in_ok-push_chosen.ensures.ok
