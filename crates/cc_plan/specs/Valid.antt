-- Settings, an environment and an output that a compile run doesn't refuse, with these verdicts.
use Rattle.std.specs.Prelude.{◌≡◌, ◌≢◌, ℕ, List, [], ◌∷◌, map, true, false, not, Option, Some, None, IsSome}
use Rattle.std.specs.List.{AllByRecursion, list_all}
use Rattle.std.specs.Path.{path_file_name, path_components}
use Rattle.cc_flags.specs.Names.{is_output_name}
use Rattle.cc_env.specs.Env.{EnvSeen}
use Rattle.cc_env.specs.Snapshot.{last_value}
use Rattle.cc_host.specs.Question.{Look}
use Rattle.cc_text.specs.Families.{is_gnu_like}
use Rattle.cc_flags.specs.DefaultWords.{is_qnx, qnx_variant, is_wasm_linux}
use Rattle.cc_flags.specs.Fields.{is_invalid}
use Rattle.cc_flags.specs.Pairs.{pairs_of}
use Rattle.cc_flags.specs.Given.{out_dir_of, target_of, host_of, level_of, is_disabled, has_no_defaults}
use Rattle.cc_plan.specs.Refusal.{is_empty, object_in, library_in, musl_variable}
use Rattle.cc_flags.specs.StdlibLines.{links_cpp}
use Rattle.cc_plan.specs.ArchiveTool.{variable_tool}
use Rattle.cc_flags.specs.ArchiveNames.{qnx_arch}
use Rattle.cc_flags.specs.Compilation.{CompilationSeen}
use Rattle.cc_flags.specs.Inherited.{inherited_text}
use Rattle.cc_plan.specs.Archive.{archiver_of}
use Rattle.cc_plan.specs.Libtool.{is_libtool, has_line_feed}
use Rattle.cc_plan.specs.Plan.{archived_of}
use Rattle.cc_plan.specs.Planned.{planned}
use Rattle.cc_flags.specs.ToolWords.{names_target, musl_sysroot}
use Rattle.cc_flags.specs.Target.{target_info, known_info, target_name}
use Rattle.cc_flags.specs.declared.archive_names.ArchiveTool.TheVariants.{Archiver}
use Rattle.cc_flags.specs.declared.settings.BuildConfig.{BuildConfig}

-- a text is none of these
abbrev pub IsNoneOf : List ℕ → List (List ℕ) → Type 0
IsNoneOf text [] = Unit {0}
IsNoneOf text (t ∷ ts) = (text ≢ t) × IsNoneOf text ts

-- no two of these texts are equal
abbrev pub AreApart : List (List ℕ) → Type 0
AreApart [] = Unit {0}
AreApart (t ∷ ts) = IsNoneOf t ts × AreApart ts

-- the target is set, and something is known of it
abbrev pub IsKnown : BuildConfig → EnvSeen → Type 0
IsKnown set env = IsSome (target_of set env) × IsSome (known_info set env (target_name set env))

abbrev pub IsSetNonempty : Option (List ℕ) → Type 0
IsSetNonempty None = ⊥
IsSetNonempty (Some []) = ⊥
IsSetNonempty (Some (b ∷ bs)) = Unit {0}

-- a compiler for QNX that takes the words of GCC has a name for the architecture
abbrev pub HasVariant : CompilationSeen → Type 0
HasVariant c = is_gnu_like c.compiler.family ≡ true → is_qnx c.target ≡ true → IsSome (qnx_variant c.target.full_arch)

-- where Clang is told a target of WebAssembly with threads, the sysroot of musl is set
abbrev pub HasSysroot : CompilationSeen → Type 0
HasSysroot c = names_target c ≡ true → is_wasm_linux c.target ≡ true → IsSome (musl_sysroot c)

-- where neither the settings nor the environment name an archiver, that of QNX has a name for the architecture
abbrev pub HasArchiver : BuildConfig → EnvSeen → Look → Type 0
HasArchiver set env look =
    set.archiver ≡ None → variable_tool Archiver set env look ≡ None → is_qnx (target_info set env) ≡ true
    → IsSome (qnx_arch (target_info set env))

-- each of these flags of Rust code has the value that it needs
abbrev pub Parse : Option (List ℕ) → Type 0
Parse None = Unit {0}
Parse (Some text) = list_all (λ pair. not (is_invalid pair)) (pairs_of text) ≡ true

pub record Valid (set : BuildConfig) (env : EnvSeen) (look : Look) (output : List ℕ) : Type 0 where
  pub name : is_output_name output ≡ true
  pub out_dir : IsSetNonempty (out_dir_of set env)
  pub named : AllByRecursion (λ source. IsSome (path_file_name source)) set.files
  pub apart : AreApart (map (object_in set env) set.files)
  -- no added object is the library
  pub others : AllByRecursion
      (λ object. path_components object ≢ path_components (library_in set env output)) set.objects
  -- commands may run
  pub enabled : is_disabled env ≡ false
  pub target : IsKnown set env
  pub host : IsSome (host_of set env)
  pub level : is_empty set.files ≡ false → IsSome (level_of set env)
  -- what the words of the target need is there, unless they are left out
  pub variant : is_empty set.files ≡ false → has_no_defaults set env ≡ false → HasVariant (planned set env look)
  pub sysroot : is_empty set.files ≡ false → has_no_defaults set env ≡ false → HasSysroot (planned set env look)
  pub archiver : HasArchiver set env look
  -- no object path has a line feed where libtool reads them from a list
  pub listed : is_libtool (archiver_of set env look) ≡ true
      → AllByRecursion (λ path. has_line_feed path ≡ false) (archived_of set env)
  -- and so is the sysroot with which a library of C++ is linked
  pub linked : links_cpp set ≡ true → is_wasm_linux (target_info set env) ≡ true
      → IsSome (last_value env.inherited musl_variable)
  -- the flags of Rust code parse, where they are read
  pub rustflags : is_empty set.files ≡ false → Parse (inherited_text set.inherit_rustflags env.inherited)
