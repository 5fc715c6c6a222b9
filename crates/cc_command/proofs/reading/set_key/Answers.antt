use Rattle.std.proofs.Common.{codes, refl}
use Rattle.cc_command.specs.Read.{key_cause, is_text_key, is_item_key}
use Rattle.cc_command.proofs.KeyLaws.{set_done, no_text_key}
use Rattle.cc_command.proofs.reading.set_key.Goals as goal

pub returns-in-source_root : goal.returns-in-source_root
unfolding key_cause is_text_key is_item_key
returns-in-source_root g c = set_done c.args.build.now c.source_root.new.self c.args.key.now (codes "source_root") c.args.value.now c.source_root.result c.set.result c.in-source_root.is refl c.set.ensures c.source_root.ensures.ok

pub returns-in-std : goal.returns-in-std
unfolding key_cause is_text_key is_item_key
returns-in-std g c = set_done c.args.build.now c.std.new.self c.args.key.now (codes "std") c.args.value.now c.std.result c.set-in-std.result c.in-std.is refl c.set-in-std.ensures c.std.ensures.ok

pub returns-in-target : goal.returns-in-target
unfolding key_cause is_text_key is_item_key
returns-in-target g c = set_done c.args.build.now c.target.new.self c.args.key.now (codes "target") c.args.value.now c.target.result c.set-in-target.result c.in-target.is refl c.set-in-target.ensures c.target.ensures.ok

pub returns-in-host : goal.returns-in-host
unfolding key_cause is_text_key is_item_key
returns-in-host g c = set_done c.args.build.now c.host.new.self c.args.key.now (codes "host") c.args.value.now c.host.result c.set-in-host.result c.in-host.is refl c.set-in-host.ensures c.host.ensures.ok

pub returns-in-opt_level_str : goal.returns-in-opt_level_str
unfolding key_cause is_text_key is_item_key
returns-in-opt_level_str g c = set_done c.args.build.now c.opt_level_str.new.self c.args.key.now (codes "opt_level_str") c.args.value.now c.opt_level_str.result c.set-in-opt_level_str.result c.in-opt_level_str.is refl c.set-in-opt_level_str.ensures c.opt_level_str.ensures.ok

pub returns-in-debug_str : goal.returns-in-debug_str
unfolding key_cause is_text_key is_item_key
returns-in-debug_str g c = set_done c.args.build.now c.debug_str.new.self c.args.key.now (codes "debug_str") c.args.value.now c.debug_str.result c.set-in-debug_str.result c.in-debug_str.is refl c.set-in-debug_str.ensures c.debug_str.ensures.ok

pub returns-in-out_dir : goal.returns-in-out_dir
unfolding key_cause is_text_key is_item_key
returns-in-out_dir g c = set_done c.args.build.now c.out_dir.new.self c.args.key.now (codes "out_dir") c.args.value.now c.out_dir.result c.set-in-out_dir.result c.in-out_dir.is refl c.set-in-out_dir.ensures c.out_dir.ensures.ok

pub returns-in-compiler : goal.returns-in-compiler
unfolding key_cause is_text_key is_item_key
returns-in-compiler g c = set_done c.args.build.now c.compiler.new.self c.args.key.now (codes "compiler") c.args.value.now c.compiler.result c.set-in-compiler.result c.in-compiler.is refl c.set-in-compiler.ensures c.compiler.ensures.ok

pub returns-in-archiver : goal.returns-in-archiver
unfolding key_cause is_text_key is_item_key
returns-in-archiver g c = set_done c.args.build.now c.archiver.new.self c.args.key.now (codes "archiver") c.args.value.now c.archiver.result c.set-in-archiver.result c.in-archiver.is refl c.set-in-archiver.ensures c.archiver.ensures.ok

pub returns-in-ranlib : goal.returns-in-ranlib
unfolding key_cause is_text_key is_item_key
returns-in-ranlib g c = set_done c.args.build.now c.ranlib.new.self c.args.key.now (codes "ranlib") c.args.value.now c.ranlib.result c.set-in-ranlib.result c.in-ranlib.is refl c.set-in-ranlib.ensures c.ranlib.ensures.ok

pub returns-in-cpp_set_stdlib : goal.returns-in-cpp_set_stdlib
unfolding key_cause is_text_key is_item_key
returns-in-cpp_set_stdlib g c =
    let done = rw c.unless_empty.ensures at c.cpp_set_stdlib.ensures.ok in
    set_done c.args.build.now c.cpp_set_stdlib.new.self c.args.key.now (codes "cpp_set_stdlib") c.args.value.now c.cpp_set_stdlib.result c.set-in-cpp_set_stdlib.result c.in-cpp_set_stdlib.is refl c.set-in-cpp_set_stdlib.ensures done

pub returns-in-cpp_link_stdlib : goal.returns-in-cpp_link_stdlib
unfolding key_cause is_text_key is_item_key
returns-in-cpp_link_stdlib g c =
    let done = rw c.unless_empty-in-cpp_link_stdlib.ensures at c.cpp_link_stdlib.ensures.ok in
    set_done c.args.build.now c.cpp_link_stdlib.new.self c.args.key.now (codes "cpp_link_stdlib") c.args.value.now c.cpp_link_stdlib.result c.set-in-cpp_link_stdlib.result c.in-cpp_link_stdlib.is refl c.set-in-cpp_link_stdlib.ensures done

pub returns-in_default : goal.returns-in_default
returns-in_default g c = c.set_item.ensures (no_text_key c.args.key.now c.in_default.not-source_root c.in_default.not-std c.in_default.not-target c.in_default.not-host c.in_default.not-opt_level_str c.in_default.not-debug_str c.in_default.not-out_dir c.in_default.not-compiler c.in_default.not-archiver c.in_default.not-ranlib c.in_default.not-cpp_set_stdlib c.in_default.not-cpp_link_stdlib)
