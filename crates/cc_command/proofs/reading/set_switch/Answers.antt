use Rattle.std.proofs.Common.{codes, refl, sym}
use Rattle.cc_command.specs.Read.{is_switch_key}
use Rattle.cc_command.proofs.KeyLaws.{known_key, no_switch_key}
use Rattle.cc_command.proofs.reading.set_switch.Goals as goal

pub returns-in_default-clause-known : goal.returns-in_default-clause-known
returns-in_default-clause-known g c = sym (no_switch_key c.args.key.now c.in_default.not-no_default_flags c.in_default.not-reproducible_codeview c.in_default.not-cpp c.in_default.not-warnings_into_errors c.in_default.not-cpp_link_stdlib_static c.in_default.not-cargo_metadata c.in_default.not-cargo_warnings c.in_default.not-cargo_output c.in_default.not-emit_rerun_if_env_changed c.in_default.not-prefer_clang_cl_over_msvc c.in_default.not-stop_on_failure c.in_default.not-inherit_rustflags c.in_default.not-inherit_trim_paths)

pub returns-in-no_default_flags-clause-known : goal.returns-in-no_default_flags-clause-known
unfolding is_switch_key
returns-in-no_default_flags-clause-known g c = known_key is_switch_key c.args.key.now (codes "no_default_flags") c.in-no_default_flags.is refl

pub returns-in-reproducible_codeview-clause-known : goal.returns-in-reproducible_codeview-clause-known
unfolding is_switch_key
returns-in-reproducible_codeview-clause-known g c = known_key is_switch_key c.args.key.now (codes "reproducible_codeview") c.in-reproducible_codeview.is refl

pub returns-in-cpp-clause-known : goal.returns-in-cpp-clause-known
unfolding is_switch_key
returns-in-cpp-clause-known g c = known_key is_switch_key c.args.key.now (codes "cpp") c.in-cpp.is refl

pub returns-in-warnings_into_errors-clause-known : goal.returns-in-warnings_into_errors-clause-known
unfolding is_switch_key
returns-in-warnings_into_errors-clause-known g c = known_key is_switch_key c.args.key.now (codes "warnings_into_errors") c.in-warnings_into_errors.is refl

pub returns-in-cpp_link_stdlib_static-clause-known : goal.returns-in-cpp_link_stdlib_static-clause-known
unfolding is_switch_key
returns-in-cpp_link_stdlib_static-clause-known g c = known_key is_switch_key c.args.key.now (codes "cpp_link_stdlib_static") c.in-cpp_link_stdlib_static.is refl

pub returns-in-cargo_metadata-clause-known : goal.returns-in-cargo_metadata-clause-known
unfolding is_switch_key
returns-in-cargo_metadata-clause-known g c = known_key is_switch_key c.args.key.now (codes "cargo_metadata") c.in-cargo_metadata.is refl

pub returns-in-cargo_warnings-clause-known : goal.returns-in-cargo_warnings-clause-known
unfolding is_switch_key
returns-in-cargo_warnings-clause-known g c = known_key is_switch_key c.args.key.now (codes "cargo_warnings") c.in-cargo_warnings.is refl

pub returns-in-cargo_output-clause-known : goal.returns-in-cargo_output-clause-known
unfolding is_switch_key
returns-in-cargo_output-clause-known g c = known_key is_switch_key c.args.key.now (codes "cargo_output") c.in-cargo_output.is refl

pub returns-in-emit_rerun_if_env_changed-clause-known : goal.returns-in-emit_rerun_if_env_changed-clause-known
unfolding is_switch_key
returns-in-emit_rerun_if_env_changed-clause-known g c = known_key is_switch_key c.args.key.now (codes "emit_rerun_if_env_changed") c.in-emit_rerun_if_env_changed.is refl

pub returns-in-prefer_clang_cl_over_msvc-clause-known : goal.returns-in-prefer_clang_cl_over_msvc-clause-known
unfolding is_switch_key
returns-in-prefer_clang_cl_over_msvc-clause-known g c = known_key is_switch_key c.args.key.now (codes "prefer_clang_cl_over_msvc") c.in-prefer_clang_cl_over_msvc.is refl

pub returns-in-stop_on_failure-clause-known : goal.returns-in-stop_on_failure-clause-known
unfolding is_switch_key
returns-in-stop_on_failure-clause-known g c = known_key is_switch_key c.args.key.now (codes "stop_on_failure") c.in-stop_on_failure.is refl

pub returns-in-inherit_rustflags-clause-known : goal.returns-in-inherit_rustflags-clause-known
unfolding is_switch_key
returns-in-inherit_rustflags-clause-known g c = known_key is_switch_key c.args.key.now (codes "inherit_rustflags") c.in-inherit_rustflags.is refl

pub returns-in-inherit_trim_paths-clause-known : goal.returns-in-inherit_trim_paths-clause-known
unfolding is_switch_key
returns-in-inherit_trim_paths-clause-known g c = known_key is_switch_key c.args.key.now (codes "inherit_trim_paths") c.in-inherit_trim_paths.is refl
