use Rattle.std.proofs.Common.{codes, ◌≡◌, ◌⊎◌, inl, inr, true, sym, ◌∙◌}
use Rattle.cc_command.specs.Read.{is_choice_key, is_switch_key}
use Rattle.cc_command.proofs.KeyLaws.{set_level, sets_on, truth_key, unknown_key}
use Rattle.cc_command.proofs.reading.set_other.Goals as goal
use Rattle.cc_command.proofs.reading.set_other.Goals.{then-is_choice_key-via-then-is_choice_key, then-is_choice_key-via-else-is_choice_key+then-is_switch_key}

pub returns-then-is_choice_key : goal.returns-then-is_choice_key
returns-then-is_choice_key g c = λ text item.
    let truth : (is_choice_key c.args.key.now ≡ true) ⊎ (is_switch_key c.args.key.now ≡ true) =
    elim c.then-is_choice_key.branch [
      | then-is_choice_key-via-then-is_choice_key w ↦ inl (sym c.is_choice_key.ensures ∙ w.if-is_choice_key.true)
      | then-is_choice_key-via-else-is_choice_key+then-is_switch_key w ↦ inr (sym w.is_switch_key.ensures ∙ w.if-is_switch_key.true)
    ] in
    (c.set_truth.ensures.cause ∙ sym (truth_key c.args.key.now c.args.value.now text item truth), c.set_truth.ensures.set)

pub returns-in-opt_level : goal.returns-in-opt_level
returns-in-opt_level g c = λ _ _. set_level c.args.build.now c.set_level.new.build c.args.key.now c.args.value.now c.set_level.result c.in-opt_level.is c.set_level.ensures

pub returns-in_default : goal.returns-in_default
returns-in_default g c = λ text item. unknown_key c.args.build.now c.args.key.now c.args.value.now text item (sym c.is_choice_key.ensures ∙ c.if-is_choice_key.false) (sym c.is_switch_key.ensures ∙ c.if-is_switch_key.false) c.in_default.not-opt_level c.in_default.not-debug c.in_default.not-env c.in_default.not-remap_source_path

pub returns-in-env : goal.returns-in-env
returns-in-env g c = λ _ _. sets_on c.args.build.now c.set_variable.new.build c.args.key.now (codes "env") c.args.value.now c.set_variable.result c.in-env.is c.set_variable.ensures

pub returns-in-debug : goal.returns-in-debug
returns-in-debug g c = λ _ _. sets_on c.args.build.now c.set_debug.new.build c.args.key.now (codes "debug") c.args.value.now c.set_debug.result c.in-debug.is c.set_debug.ensures

pub returns-in-remap_source_path : goal.returns-in-remap_source_path
returns-in-remap_source_path g c = λ _ _. sets_on c.args.build.now c.set_remap.new.build c.args.key.now (codes "remap_source_path") c.args.value.now c.set_remap.result c.in-remap_source_path.is c.set_remap.ensures
