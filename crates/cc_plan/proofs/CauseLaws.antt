-- What settings are refused for: never for the path of a library, which `path_refusal` alone looks at.
use Rattle.std.proofs.Common.{◌≢◌, ℕ, List, [], ◌∷◌, ◌++◌, length, Bool, true, false, ◌&&◌, Option, Some, None, is_none, codes, if◌then◌else◌}
use Rattle.std.specs.List.{position}
use Rattle.std.specs.Option.{option_map}
use Rattle.std.specs.Path.{path_file_name}
use Rattle.cc_env.specs.Env.{EnvSeen}
use Rattle.cc_env.specs.Snapshot.{last_value}
use Rattle.cc_host.specs.Question.{Look}
use Rattle.cc_target.specs.Targets.{Info}
use Rattle.cc_text.specs.declared.family.ToolFamily.{ToolFamily}
use Rattle.cc_flags.specs.ArchiveNames.{lacks_qnx_arch, set_program}
use Rattle.cc_flags.specs.Compilation.{CompilationSeen}
use Rattle.cc_flags.specs.DefaultWords.{lacks_qnx_variant, is_wasm_linux}
use Rattle.cc_flags.specs.Given.{out_dir_of, target_of, host_of, level_of, has_no_defaults, first_of}
use Rattle.cc_flags.specs.Inherited.{inherited_wrong}
use Rattle.cc_flags.specs.Names.{is_output_name}
use Rattle.cc_flags.specs.StdlibLines.{links_cpp}
use Rattle.cc_flags.specs.Target.{target_info, known_info, target_name}
use Rattle.cc_flags.specs.ToolWords.{names_target, musl_sysroot}
use Rattle.cc_flags.specs.declared.archive_names.ArchiveTool.{ArchiveTool}
use Rattle.cc_flags.specs.declared.archive_names.ArchiveTool.TheVariants.{Archiver as TheArchiver, Ranlib as TheRanlib}
use Rattle.cc_flags.specs.declared.compiler.Compiler.{Compiler}
use Rattle.cc_flags.specs.declared.error.FlagError.{FlagError}
use Rattle.cc_flags.specs.declared.error.FlagError.TheVariants.{InvalidFlag, NoMemory as WantsMemory}
use Rattle.cc_flags.specs.declared.settings.BuildConfig.{BuildConfig}
use Rattle.cc_plan.specs.Added.{is_library, added_refusal}
use Rattle.cc_plan.specs.Archive.{archiver_of}
use Rattle.cc_plan.specs.ArchiveTool.{variable_tool}
use Rattle.cc_plan.specs.Checks.{first_refusal, qnx_refusal, sysroot_refusal, clang_refusal, defaults_refusal, plan_refusal, inherited_refusal}
use Rattle.cc_plan.specs.Compiler.{compiler_of}
use Rattle.cc_plan.specs.Libtool.{is_libtool, has_line_feed, list_refusal}
use Rattle.cc_plan.specs.Plan.{archived_of, archived_refusal, archive_refusal}
use Rattle.cc_plan.specs.Refusal.{earlier_place, source_refusal, sources_after, sources_refusal, name_refusal, out_dir_refusal, unset, unknown_refusal, target_refusal, platform_refusal, given_refusal, refusal_by, tool_refusal, object_in, library_in, intermediate_refusal, early_refusal, is_empty, late_refusal, qnx_arch_refusal, found_refusal, known_refusal, choice_refusal, look_up_refusal, archive_tool_refusal, archiver_refusal, ranlib_refusal, musl_variable, cpp_refusal, link_refusal}
use Rattle.cc_plan.specs.Tool.{defaults_refusal_by}
use Rattle.cc_plan.specs.declared.archiver.Archiver.{Archiver}
use Rattle.cc_plan.specs.declared.error.ArgumentCause.{ArgumentCause}
use Rattle.cc_plan.specs.declared.error.ArgumentCause.TheVariants.{Output, NoFileName, SameObject, LibraryIsObject, LineFeed, Library}
use Rattle.cc_plan.specs.declared.error.PlanError.{PlanError}
use Rattle.cc_plan.specs.declared.error.PlanError.TheVariants.{Argument}

-- it isn't for the path of a library
abbrev pub IsOther : Option PlanError → Type 0
IsOther refusal = refusal ≢ Some (Argument Library)

first : (a b : Option PlanError) → IsOther a → IsOther b → IsOther (first_of a b)
first None b f g = g
first (Some x) b f g = f

where_true : (t : Bool) (a : Option PlanError) → IsOther a → IsOther (if t then a else None)
where_true true a f = f
where_true false a f = λ is. cc

where_false : (t : Bool) (a : Option PlanError) → IsOther a → IsOther (if t then None else a)
where_false true a f = λ is. cc
where_false false a f = f

either : (t : Bool) (a b : Option PlanError) → IsOther a → IsOther b → IsOther (if t then a else b)
either true a b f g = f
either false a b f g = g

mapped : {X : Type 0} (f : X → PlanError) → ((x : X) → f x ≢ Argument Library) → (a : Option X) → IsOther (option_map f a)
mapped f h None = λ is. cc
mapped f h (Some x) = λ is. h x (cc)

-- ---- before the folder of the objects is made

pub name_other : (output : List ℕ) → IsOther (name_refusal output)
name_other output = by_test (is_output_name output)
  where
    by_test : (t : Bool) → IsOther (if t then None else Some (Argument Output))
    by_test true = λ is. cc
    by_test false = λ is. cc

out_dir_other : (dir : Option (List ℕ)) → IsOther (out_dir_refusal dir)
out_dir_other None = λ is. cc
out_dir_other (Some []) = λ is. cc
out_dir_other (Some (b ∷ bs)) = λ is. cc

doubled : (count : ℕ) (place : Option ℕ) → option_map (λ p. SameObject p count) place ≢ Some Library
doubled count None = λ is. cc
doubled count (Some place) = λ is. cc

source_other : (path : List ℕ → List ℕ) (earlier : List (List ℕ)) (source : List ℕ) → source_refusal path earlier source ≢ Some Library
unfolding source_refusal
source_other path earlier source = by_test (is_none (path_file_name source))
  where
    by_test : (t : Bool) → (if t then Some (NoFileName (length earlier)) else option_map (λ place. SameObject place (length earlier)) (earlier_place path earlier source)) ≢ Some Library
    by_test true = λ is. cc
    by_test false = doubled (length earlier) (earlier_place path earlier source)

first_cause : (a b : Option ArgumentCause) → a ≢ Some Library → b ≢ Some Library → first_of a b ≢ Some Library
first_cause None b f g = g
first_cause (Some x) b f g = f

after_other : (path : List ℕ → List ℕ) (earlier sources : List (List ℕ)) → sources_after path earlier sources ≢ Some Library
after_other path earlier [] = λ is. cc
after_other path earlier (source ∷ sources) = first_cause (source_refusal path earlier source) (sources_after path (earlier ++ source ∷ []) sources) (source_other path earlier source) (after_other path (earlier ++ source ∷ []) sources)

sources_other : (path : List ℕ → List ℕ) (sources : List (List ℕ)) → IsOther (sources_refusal path sources)
sources_other path sources = by_cause (sources_after path [] sources) (after_other path [] sources)
  where
    by_cause : (cause : Option ArgumentCause) → cause ≢ Some Library → IsOther (option_map Argument cause)
    by_cause None h = λ is. cc
    by_cause (Some cause) h = λ is. h (cc)

pub early_other : (set : BuildConfig) (env : EnvSeen) (output : List ℕ) → IsOther (early_refusal set env output)
unfolding early_refusal intermediate_refusal
early_other set env output =
    first (name_refusal output) _ (name_other output)
    (first (first_of (out_dir_refusal (out_dir_of set env)) (sources_refusal (object_in set env) set.files)) (added_refusal (library_in set env output) set.objects)
    (first (out_dir_refusal (out_dir_of set env)) (sources_refusal (object_in set env) set.files) (out_dir_other (out_dir_of set env)) (sources_other (object_in set env) set.files))
    (mapped (λ place. Argument (LibraryIsObject place)) (λ place is. cc) (position (is_library (library_in set env output)) set.objects)))

-- ---- behind it

unset_other : (name : List ℕ) (value : Option (List ℕ)) → IsOther (unset name value)
unset_other name None = λ is. cc
unset_other name (Some value) = λ is. cc

target_other : (set : BuildConfig) (env : EnvSeen) → IsOther (target_refusal set env)
unfolding target_refusal
target_other set env =
    first (unset (codes "TARGET") (target_of set env)) (unknown_refusal set env (target_name set env)) (unset_other (codes "TARGET") (target_of set env))
    (where_true (is_none (known_info set env (target_name set env))) _ (λ is. cc))

platform_other : (set : BuildConfig) (env : EnvSeen) → IsOther (platform_refusal set env)
unfolding platform_refusal
platform_other set env = first (target_refusal set env) (unset (codes "HOST") (host_of set env)) (target_other set env) (unset_other (codes "HOST") (host_of set env))

given_other : (set : BuildConfig) (env : EnvSeen) → IsOther (given_refusal set env)
unfolding given_refusal
given_other set env = first (unset (codes "OPT_LEVEL") (level_of set env)) (target_refusal set env) (unset_other (codes "OPT_LEVEL") (level_of set env)) (target_other set env)

first_either : (a b : Option PlanError) → IsOther a → IsOther b → IsOther (first_refusal a b)
first_either None b f g = g
first_either (Some x) b f g = f

qnx_other : (family : ToolFamily) (target : Info) → IsOther (qnx_refusal family target)
unfolding qnx_refusal
qnx_other family target = where_true (lacks_qnx_variant family target) _ (λ is. cc)

clang_other : (c : CompilationSeen) → IsOther (clang_refusal c)
unfolding clang_refusal sysroot_refusal
clang_other c = where_true (names_target c) _ (where_true (is_wasm_linux c.target && is_none (musl_sysroot c)) _ (λ is. cc))

words_other : (c : CompilationSeen) → IsOther (defaults_refusal c)
unfolding defaults_refusal
words_other c =
    where_false (has_no_defaults c.set c.env) (first_refusal (qnx_refusal c.compiler.family c.target) (clang_refusal c))
    (first_either (qnx_refusal c.compiler.family c.target) (clang_refusal c) (qnx_other c.compiler.family c.target) (clang_other c))

flags_other : (inherits : Bool) (env : List (List ℕ × List ℕ)) → IsOther (inherited_refusal inherits env)
unfolding inherited_refusal
flags_other inherits env = mapped plan_refusal by_flag (inherited_wrong inherits env)
  where
    by_flag : (e : FlagError) → plan_refusal e ≢ Argument Library
    by_flag (InvalidFlag flag) = λ is. cc
    by_flag WantsMemory = λ is. cc

by_other : (set : BuildConfig) (env : EnvSeen) (compiler : Compiler) → IsOther (refusal_by set env compiler)
unfolding refusal_by defaults_refusal_by
by_other set env compiler =
    first (defaults_refusal_by set env compiler) (first_of (unset (codes "HOST") (host_of set env)) (inherited_refusal set.inherit_rustflags env.inherited)) (words_other _)
    (first (unset (codes "HOST") (host_of set env)) (inherited_refusal set.inherit_rustflags env.inherited) (unset_other (codes "HOST") (host_of set env)) (flags_other set.inherit_rustflags env.inherited))

pub tool_other : (set : BuildConfig) (env : EnvSeen) (look : Look) → IsOther (tool_refusal set env look)
tool_other set env look = first (given_refusal set env) (refusal_by set env (compiler_of set env look)) (given_other set env) (by_other set env (compiler_of set env look))

pub late_other : (set : BuildConfig) (env : EnvSeen) (look : Look) → IsOther (late_refusal set env look)
unfolding late_refusal
late_other set env look = either (is_empty set.files) (platform_refusal set env) (tool_refusal set env look) (platform_other set env) (tool_other set env look)

-- ---- behind the sources

archives_other : (tool : ArchiveTool) (set : BuildConfig) (env : EnvSeen) (look : Look) → IsOther (archive_tool_refusal tool set env look)
unfolding look_up_refusal qnx_arch_refusal
archives_other tool set env look =
    first (choice_refusal tool set env look) (look_up_refusal set env)
    (where_true (is_none (set_program tool set)) (known_refusal tool set env look)
    (first (target_refusal set env) (found_refusal tool set env look) (target_other set env)
    (where_true (is_none (variable_tool tool set env look)) (qnx_arch_refusal (target_info set env)) (where_true (lacks_qnx_arch (target_info set env)) _ (λ is. cc)))))
    (first (unset (codes "TARGET") (target_of set env)) (unset (codes "HOST") (host_of set env)) (unset_other (codes "TARGET") (target_of set env)) (unset_other (codes "HOST") (host_of set env)))

pub archiver_other : (set : BuildConfig) (env : EnvSeen) (look : Look) → IsOther (archiver_refusal set env look)
unfolding archiver_refusal
archiver_other set env look = archives_other TheArchiver set env look

pub ranlib_other : (set : BuildConfig) (env : EnvSeen) (look : Look) → IsOther (ranlib_refusal set env look)
unfolding ranlib_refusal
ranlib_other set env look = archives_other TheRanlib set env look

archived_other : (set : BuildConfig) (env : EnvSeen) (archiver : Archiver) (paths : List (List ℕ)) → IsOther (archived_refusal set env archiver paths)
unfolding archived_refusal
archived_other set env archiver paths =
    first (list_refusal archiver paths) (target_refusal set env)
    (where_true (is_libtool archiver) _ (mapped (λ place. Argument (LineFeed place)) (λ place is. cc) (position has_line_feed paths))) (target_other set env)

pub archive_other : (set : BuildConfig) (env : EnvSeen) (look : Look) → IsOther (archive_refusal set env look)
unfolding archive_refusal
archive_other set env look =
    first (archiver_refusal set env look) (archived_refusal set env (archiver_of set env look) (archived_of set env)) (archiver_other set env look) (archived_other set env (archiver_of set env look) (archived_of set env))

-- ---- behind the library

pub link_other : (set : BuildConfig) (env : EnvSeen) (look : Look) → IsOther (link_refusal set env look)
unfolding link_refusal cpp_refusal
link_other set env look =
    where_true (links_cpp set && is_wasm_linux (target_info set env)) (unset musl_variable (last_value env.inherited musl_variable)) (unset_other musl_variable (last_value env.inherited musl_variable))
