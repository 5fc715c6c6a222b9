use Rattle.std.proofs.Common.{codes, None, refl}
use Rattle.cc_command.specs.Read.{key_cause, is_text_key, is_item_key}
use Rattle.cc_command.proofs.KeyLaws.{set_done, sets_key, no_item_key}
use Rattle.cc_command.proofs.reading.set_item.Goals as goal

pub returns-in-file : goal.returns-in-file
unfolding key_cause is_text_key is_item_key
returns-in-file g c = λ _. set_done c.args.build.now c.file.new.self c.args.key.now (codes "file") c.args.value.now c.file.result c.set.result c.in-file.is refl c.set.ensures c.file.ensures.ok

pub returns-in-object : goal.returns-in-object
unfolding key_cause is_text_key is_item_key
returns-in-object g c = λ _. set_done c.args.build.now c.object.new.self c.args.key.now (codes "object") c.args.value.now c.object.result c.set-in-object.result c.in-object.is refl c.set-in-object.ensures c.object.ensures.ok

pub returns-in-include : goal.returns-in-include
unfolding key_cause is_text_key is_item_key
returns-in-include g c = λ _. set_done c.args.build.now c.include.new.self c.args.key.now (codes "include") c.args.value.now c.include.result c.set-in-include.result c.in-include.is refl c.set-in-include.ensures c.include.ensures.ok

pub returns-in-ar_flag : goal.returns-in-ar_flag
unfolding key_cause is_text_key is_item_key
returns-in-ar_flag g c = λ _. set_done c.args.build.now c.ar_flag.new.self c.args.key.now (codes "ar_flag") c.args.value.now c.ar_flag.result c.set-in-ar_flag.result c.in-ar_flag.is refl c.set-in-ar_flag.ensures c.ar_flag.ensures.ok

pub returns-in-asm_flag : goal.returns-in-asm_flag
unfolding key_cause is_text_key is_item_key
returns-in-asm_flag g c = λ _. set_done c.args.build.now c.asm_flag.new.self c.args.key.now (codes "asm_flag") c.args.value.now c.asm_flag.result c.set-in-asm_flag.result c.in-asm_flag.is refl c.set-in-asm_flag.ensures c.asm_flag.ensures.ok

pub returns-in-link_lib_modifier : goal.returns-in-link_lib_modifier
unfolding key_cause is_text_key is_item_key
returns-in-link_lib_modifier g c = λ _. set_done c.args.build.now c.link_lib_modifier.new.self c.args.key.now (codes "link_lib_modifier") c.args.value.now c.link_lib_modifier.result c.set-in-link_lib_modifier.result c.in-link_lib_modifier.is refl c.set-in-link_lib_modifier.ensures c.link_lib_modifier.ensures.ok

pub returns-in-flag : goal.returns-in-flag
unfolding key_cause is_text_key is_item_key
returns-in-flag g c = λ _. set_done c.args.build.now c.flag.new.self c.args.key.now (codes "flag") c.args.value.now c.flag.result c.set-in-flag.result c.in-flag.is refl c.set-in-flag.ensures c.flag.ensures.ok

pub returns-in-flag_if_supported : goal.returns-in-flag_if_supported
unfolding key_cause is_text_key is_item_key
returns-in-flag_if_supported g c = λ _. set_done c.args.build.now c.flag_if_supported.new.self c.args.key.now (codes "flag_if_supported") c.args.value.now c.flag_if_supported.result c.set-in-flag_if_supported.result c.in-flag_if_supported.is refl c.set-in-flag_if_supported.ensures c.flag_if_supported.ensures.ok

pub returns-in-define : goal.returns-in-define
unfolding key_cause is_text_key is_item_key
returns-in-define g c = λ _. set_done c.args.build.now c.define.new.build c.args.key.now (codes "define") c.args.value.now c.define.result c.set-in-define.result c.in-define.is refl c.set-in-define.ensures c.define.ensures

pub returns-in-remove_flag : goal.returns-in-remove_flag
unfolding key_cause is_text_key is_item_key
returns-in-remove_flag g c = λ _. sets_key c.args.build.now c.remove_flag.new.self c.args.key.now (codes "remove_flag") c.args.value.now None c.in-remove_flag.is (refl, λ _. c.remove_flag.ensures)

pub returns-in_default : goal.returns-in_default
returns-in_default g c = λ text. c.set_other.ensures text (no_item_key c.args.key.now c.in_default.not-file c.in_default.not-object c.in_default.not-include c.in_default.not-ar_flag c.in_default.not-asm_flag c.in_default.not-link_lib_modifier c.in_default.not-flag c.in_default.not-flag_if_supported c.in_default.not-define c.in_default.not-remove_flag)
