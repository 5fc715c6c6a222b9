use Rattle.std.proofs.Common.{codes, refl, sym}
use Rattle.cc_command.specs.Read.{is_choice_key}
use Rattle.cc_command.proofs.KeyLaws.{known_key, no_choice_key}
use Rattle.cc_command.proofs.reading.set_choice.Goals as goal

pub returns-in_default-clause-known : goal.returns-in_default-clause-known
returns-in_default-clause-known g c = sym (no_choice_key c.args.key.now c.in_default.not-shared_flag c.in_default.not-static_flag c.in_default.not-warnings c.in_default.not-extra_warnings c.in_default.not-pic c.in_default.not-use_plt c.in_default.not-static_crt c.in_default.not-shell_escaped_flags c.in_default.not-force_frame_pointer c.in_default.not-cargo_debug)

pub returns-in-shared_flag-clause-known : goal.returns-in-shared_flag-clause-known
unfolding is_choice_key
returns-in-shared_flag-clause-known g c = known_key is_choice_key c.args.key.now (codes "shared_flag") c.in-shared_flag.is refl

pub returns-in-static_flag-clause-known : goal.returns-in-static_flag-clause-known
unfolding is_choice_key
returns-in-static_flag-clause-known g c = known_key is_choice_key c.args.key.now (codes "static_flag") c.in-static_flag.is refl

pub returns-in-warnings-clause-known : goal.returns-in-warnings-clause-known
unfolding is_choice_key
returns-in-warnings-clause-known g c = known_key is_choice_key c.args.key.now (codes "warnings") c.in-warnings.is refl

pub returns-in-extra_warnings-clause-known : goal.returns-in-extra_warnings-clause-known
unfolding is_choice_key
returns-in-extra_warnings-clause-known g c = known_key is_choice_key c.args.key.now (codes "extra_warnings") c.in-extra_warnings.is refl

pub returns-in-pic-clause-known : goal.returns-in-pic-clause-known
unfolding is_choice_key
returns-in-pic-clause-known g c = known_key is_choice_key c.args.key.now (codes "pic") c.in-pic.is refl

pub returns-in-use_plt-clause-known : goal.returns-in-use_plt-clause-known
unfolding is_choice_key
returns-in-use_plt-clause-known g c = known_key is_choice_key c.args.key.now (codes "use_plt") c.in-use_plt.is refl

pub returns-in-static_crt-clause-known : goal.returns-in-static_crt-clause-known
unfolding is_choice_key
returns-in-static_crt-clause-known g c = known_key is_choice_key c.args.key.now (codes "static_crt") c.in-static_crt.is refl

pub returns-in-shell_escaped_flags-clause-known : goal.returns-in-shell_escaped_flags-clause-known
unfolding is_choice_key
returns-in-shell_escaped_flags-clause-known g c = known_key is_choice_key c.args.key.now (codes "shell_escaped_flags") c.in-shell_escaped_flags.is refl

pub returns-in-force_frame_pointer-clause-known : goal.returns-in-force_frame_pointer-clause-known
unfolding is_choice_key
returns-in-force_frame_pointer-clause-known g c = known_key is_choice_key c.args.key.now (codes "force_frame_pointer") c.in-force_frame_pointer.is refl

pub returns-in-cargo_debug-clause-known : goal.returns-in-cargo_debug-clause-known
unfolding is_choice_key
returns-in-cargo_debug-clause-known g c = known_key is_choice_key c.args.key.now (codes "cargo_debug") c.in-cargo_debug.is refl
