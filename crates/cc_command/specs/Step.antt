-- What one word more does to the settings.
use Rattle.std.specs.Prelude.{ℕ, List, [], ◌∷◌, ◌++◌, Option, Some, None, map, if◌then◌else◌}
use Rattle.cc_text.specs.Cuts.{key_and_value}
use Rattle.cc_flags.specs.BuildFlags.{without}
use Rattle.cc_flags.specs.declared.build_flags.BuildFlag.{BuildFlag}
use Rattle.cc_flags.specs.declared.build_flags.BuildFlag.TheVariants.{Always, IfSupported}
use Rattle.cc_build.specs.Build.{BuildSeen}
use Rattle.cc_command.specs.Read.{is, by, by_either, value_of, level_value, latest, latest_truth, latest_choice, latest_nonempty, latest_library, definition_of, variable_of}

-- a list with others behind it
abbrev pub added : {X : Type 0} → List X → List X → List X
added before [] = before
added before (v ∷ vs) = before ++ v ∷ vs

-- the flags with one more, or without those of a word
abbrev pub flags_behind : List BuildFlag → List ℕ → List ℕ → List BuildFlag
flags_behind flags key value =
    if is key "flag" then flags ++ Always value ∷ []
    else (if is key "flag_if_supported" then flags ++ IfSupported value ∷ []
    else (if is key "remove_flag" then without value flags else flags))

abbrev pub with_key : BuildSeen → List ℕ → List ℕ → BuildSeen
with_key set key value = record {
  config = record {
    files = added set.config.files (value_of (by "file") key value);
    objects = added set.config.objects (value_of (by "object") key value);
    includes = added set.config.includes (value_of (by "include") key value);
    ar_flags = added set.config.ar_flags (value_of (by "ar_flag") key value);
    asm_flags = added set.config.asm_flags (value_of (by "asm_flag") key value);
    link_lib_modifiers = added set.config.link_lib_modifiers (value_of (by "link_lib_modifier") key value);
    flags = flags_behind set.config.flags key value;
    definitions = added set.config.definitions (map definition_of (value_of (by "define") key value));
    remap_source_paths = added set.config.remap_source_paths
        (map variable_of (value_of (by "remap_source_path") key value));
    source_root = latest set.config.source_root (value_of (by "source_root") key value);
    std = latest set.config.std (value_of (by "std") key value);
    target = latest set.config.target (value_of (by "target") key value);
    host = latest set.config.host (value_of (by "host") key value);
    opt_level = latest set.config.opt_level (level_value key value);
    debug = latest set.config.debug (value_of (by_either "debug" "debug_str") key value);
    out_dir = latest set.config.out_dir (value_of (by "out_dir") key value);
    compiler = latest set.config.compiler (value_of (by "compiler") key value);
    archiver = latest set.config.archiver (value_of (by "archiver") key value);
    ranlib = latest set.config.ranlib (value_of (by "ranlib") key value);
    cpp_set_stdlib = latest_nonempty set.config.cpp_set_stdlib (value_of (by "cpp_set_stdlib") key value);
    cpp_link_stdlib = latest_library set.config.cpp_link_stdlib
        (value_of (by_either "cpp_set_stdlib" "cpp_link_stdlib") key value);
    shared_flag = latest_choice set.config.shared_flag (value_of (by "shared_flag") key value);
    static_flag = latest_choice set.config.static_flag (value_of (by "static_flag") key value);
    warnings = latest_choice set.config.warnings (value_of (by "warnings") key value);
    extra_warnings = latest_choice set.config.extra_warnings
        (value_of (by_either "extra_warnings" "warnings") key value);
    force_frame_pointer = latest_choice set.config.force_frame_pointer (value_of (by "force_frame_pointer") key value);
    cargo_debug = latest_choice set.config.cargo_debug (value_of (by "cargo_debug") key value);
    pic = latest_choice set.config.pic (value_of (by "pic") key value);
    use_plt = latest_choice set.config.use_plt (value_of (by "use_plt") key value);
    static_crt = latest_choice set.config.static_crt (value_of (by "static_crt") key value);
    shell_escaped_flags = latest_choice set.config.shell_escaped_flags (value_of (by "shell_escaped_flags") key value);
    no_default_flags = latest_truth set.config.no_default_flags (value_of (by "no_default_flags") key value);
    reproducible_codeview = latest_truth set.config.reproducible_codeview
        (value_of (by "reproducible_codeview") key value);
    cpp = latest_truth set.config.cpp (value_of (by "cpp") key value);
    warnings_into_errors = latest_truth set.config.warnings_into_errors
        (value_of (by "warnings_into_errors") key value);
    cpp_link_stdlib_static = latest_truth set.config.cpp_link_stdlib_static
        (value_of (by "cpp_link_stdlib_static") key value);
    cargo_metadata = latest_truth set.config.cargo_metadata (value_of (by "cargo_metadata") key value);
    cargo_warnings = latest_truth set.config.cargo_warnings (value_of (by "cargo_warnings") key value);
    cargo_output = latest_truth set.config.cargo_output (value_of (by "cargo_output") key value);
    emit_rerun_if_env_changed = latest_truth set.config.emit_rerun_if_env_changed
        (value_of (by "emit_rerun_if_env_changed") key value);
    inherit_rustflags = latest_truth set.config.inherit_rustflags (value_of (by "inherit_rustflags") key value);
    inherit_trim_paths = latest_truth set.config.inherit_trim_paths (value_of (by "inherit_trim_paths") key value);
    prefer_clang_cl_over_msvc = latest_truth set.config.prefer_clang_cl_over_msvc
        (value_of (by "prefer_clang_cl_over_msvc") key value);
    stop_on_failure = latest_truth set.config.stop_on_failure (value_of (by "stop_on_failure") key value);
    repeat_lines = set.config.repeat_lines;
  };
  env = record {
    inherited = set.env.inherited;
    explicit = added set.env.explicit (map variable_of (value_of (by "env") key value));
  };
}

abbrev pub with_pair : BuildSeen → Option (List ℕ × List ℕ) → BuildSeen
with_pair set None = set
with_pair set (Some pair) = with_key set pair.0 pair.1

abbrev pub with_word : BuildSeen → List ℕ → BuildSeen
with_word set word = with_pair set (key_and_value word)
