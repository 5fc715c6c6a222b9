use Rattle.cc_flags.proofs.FlagLemmas.{same_flags}
use Rattle.cc_flags.proofs.flags.flags_of.Goals as goal

pub returns : goal.returns
returns c =
    same_flags c.in_ok-branch_protection.ensures c.in_ok-code_model.ensures c.is_given-no_vectorize_loops.ensures c.is_given-no_vectorize_slp.ensures
    c.in_ok-control_flow_guard.ensures c.in_ok-lto.ensures c.in_ok-relocation_model.ensures
    c.switch_of-embed_bitcode.ensures c.switch_of-force_frame_pointers.ensures c.switch_of-no_redzone.ensures c.switch_of-soft_float.ensures
    c.number_of-dwarf_version.ensures c.in_ok-stack_protector.ensures c.plugin_of-linker_plugin_lto.ensures
    c.in_ok-target_features.ensures c.in_ok-target_cpu.ensures
