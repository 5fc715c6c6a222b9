-- The settings of a new build, and those of an archive alone.
use Rattle.std.specs.Prelude.{ℕ, List, [], ◌++◌, None, true, false}
use Rattle.cc_flags.specs.declared.settings.BuildConfig.{BuildConfig}

-- no source and nothing set, link lines, warnings, output of the commands, rerun lines and what Cargo hands down on, all else off
abbrev pub unset_settings : BuildConfig
unset_settings = record {
  files = [];
  objects = [];
  includes = [];
  ar_flags = [];
  asm_flags = [];
  link_lib_modifiers = [];
  flags = [];
  definitions = [];
  remap_source_paths = [];
  source_root = None;
  std = None;
  target = None;
  host = None;
  opt_level = None;
  debug = None;
  out_dir = None;
  compiler = None;
  archiver = None;
  ranlib = None;
  cpp_set_stdlib = None;
  cpp_link_stdlib = None;
  shared_flag = None;
  static_flag = None;
  warnings = None;
  extra_warnings = None;
  force_frame_pointer = None;
  cargo_debug = None;
  pic = None;
  use_plt = None;
  static_crt = None;
  shell_escaped_flags = None;
  no_default_flags = false;
  reproducible_codeview = false;
  cpp = false;
  warnings_into_errors = false;
  cpp_link_stdlib_static = false;
  cargo_metadata = true;
  cargo_warnings = true;
  cargo_output = true;
  emit_rerun_if_env_changed = true;
  inherit_rustflags = true;
  inherit_trim_paths = true;
  prefer_clang_cl_over_msvc = false;
  stop_on_failure = false;
  repeat_lines = false;
}

-- settings without sources, with these objects in the place of theirs
abbrev pub archive_settings : BuildConfig → List (List ℕ) → BuildConfig
archive_settings set objects = record set { files = []; objects = objects ++ set.objects }
