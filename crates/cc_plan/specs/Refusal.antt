-- What settings and snapshot are refused for. The answer is that of the first part which doesn't hold, in the order of
-- the definitions.
use Rattle.std.specs.Prelude.{◌≡◌, ◌⊎◌, Result, OnOk, IfErr, ℕ, ◌+◌, List, [], ◌∷◌, ◌++◌, length, map, Bool, ◌&&◌, Option, Some, None, is_none, unwrap_or, true, false, codes, bytes_eq, if◌then◌else◌}
use Rattle.std.specs.Option.{option_map}
use Rattle.std.specs.Path.{path_file_name, path_join}
use Rattle.cc_plan.specs.Added.{added_refusal}
use Rattle.cc_flags.specs.Names.{is_output_name, library_file, linked_library}
use Rattle.cc_env.specs.Env.{EnvSeen}
use Rattle.cc_env.specs.Snapshot.{last_value}
use Rattle.cc_flags.specs.DefaultWords.{is_wasm_linux}
use Rattle.cc_host.specs.Question.{Look}
use Rattle.cc_target.specs.Targets.{Info}
use Rattle.cc_plan.specs.ArchiveTool.{variable_tool}
use Rattle.cc_flags.specs.ArchiveNames.{lacks_qnx_arch, set_program}
use Rattle.cc_flags.specs.Given.{out_dir_of, target_of, host_of, level_of, first_of}
use Rattle.cc_flags.specs.Object.{object_path}
use Rattle.cc_plan.specs.Compiler.{compiler_of}
use Rattle.cc_plan.specs.Checks.{inherited_refusal}
use Rattle.cc_flags.specs.Target.{target_info, known_info, target_name}
use Rattle.cc_plan.specs.Tool.{defaults_refusal_by}
use Rattle.cc_flags.specs.declared.archive_names.ArchiveTool.{ArchiveTool}
use Rattle.cc_flags.specs.declared.archive_names.ArchiveTool.TheVariants.{Archiver, Ranlib}
use Rattle.cc_flags.specs.declared.compiler.Compiler.{Compiler}
use Rattle.cc_plan.specs.declared.error.ArgumentCause.{ArgumentCause}
use Rattle.cc_plan.specs.declared.error.ArgumentCause.TheVariants.{Output, OutDir, NoFileName, SameObject, Library}
use Rattle.cc_plan.specs.declared.error.PlanError.{PlanError}
use Rattle.cc_plan.specs.declared.error.PlanError.TheVariants.{Argument, NotSet, UnknownTarget, QnxArch, NoMemory}
use Rattle.cc_flags.specs.declared.settings.BuildConfig.{BuildConfig}
use Rattle.cc_flags.specs.StdlibLines.{links_cpp}

-- the place of the first equal text, where the first of them counts as n
abbrev pub place_from : ℕ → List ℕ → List (List ℕ) → Option ℕ
place_from n text [] = None
place_from n text (t ∷ ts) = if bytes_eq text t then Some n else place_from (n + 1) text ts

-- the place of an earlier source with the same object, where each source has the object that `path` gives it
unfoldable pub earlier_place : (List ℕ → List ℕ) → List (List ℕ) → List ℕ → Option ℕ
earlier_place path earlier source = place_from 0 (path source) (map path earlier)

-- what is wrong with a source, after the earlier ones
unfoldable pub source_refusal : (List ℕ → List ℕ) → List (List ℕ) → List ℕ → Option ArgumentCause
source_refusal path earlier source =
    if is_none (path_file_name source) then Some (NoFileName (length earlier))
    else option_map (λ place. SameObject place (length earlier)) (earlier_place path earlier source)

-- the first source, in order, with something wrong
abbrev pub sources_after : (List ℕ → List ℕ) → List (List ℕ) → List (List ℕ) → Option ArgumentCause
sources_after path earlier [] = None
sources_after path earlier (source ∷ sources) =
    first_of (source_refusal path earlier source) (sources_after path (earlier ++ source ∷ []) sources)

abbrev pub sources_refusal : (List ℕ → List ℕ) → List (List ℕ) → Option PlanError
sources_refusal path sources = option_map Argument (sources_after path [] sources)

-- the same of sources whose objects are in a folder
abbrev pub objects_refusal : List (List ℕ × List ℕ) → Option (List ℕ) → List ℕ → List (List ℕ) → Option PlanError
objects_refusal env root dir sources = sources_refusal (object_path env root dir) sources

abbrev pub name_refusal : List ℕ → Option PlanError
name_refusal output = if is_output_name output then None else Some (Argument Output)

-- what link lines by the path of a library want
abbrev pub path_refusal : BuildConfig → EnvSeen → List ℕ → Option PlanError
path_refusal set env path =
    if is_none (linked_library (target_info set env) path) then Some (Argument Library) else None

abbrev pub out_dir_refusal : Option (List ℕ) → Option PlanError
out_dir_refusal None = Some (NotSet (codes "OUT_DIR"))
out_dir_refusal (Some []) = Some (Argument OutDir)
out_dir_refusal (Some (b ∷ bs)) = None

abbrev pub unset : List ℕ → Option (List ℕ) → Option PlanError
unset name None = Some (NotSet name)
unset name (Some value) = None

-- what the name of a target wants: that something is known of it
abbrev pub unknown_refusal : BuildConfig → EnvSeen → List ℕ → Option PlanError
unknown_refusal set env name = if is_none (known_info set env name) then Some (UnknownTarget name) else None

-- what is wanted of the target: it is set, and something is known of it
unfoldable pub target_refusal : BuildConfig → EnvSeen → Option PlanError
target_refusal set env =
    first_of (unset (codes "TARGET") (target_of set env)) (unknown_refusal set env (target_name set env))

-- what an archive wants: the target and the host, which flags of the environment are looked up by
unfoldable pub platform_refusal : BuildConfig → EnvSeen → Option PlanError
platform_refusal set env = first_of (target_refusal set env) (unset (codes "HOST") (host_of set env))

-- what the compiler wants before it is chosen: the level and the target
unfoldable pub given_refusal : BuildConfig → EnvSeen → Option PlanError
given_refusal set env = first_of (unset (codes "OPT_LEVEL") (level_of set env)) (target_refusal set env)

-- what it wants then, in the order of its words: what those of the target and the level want; the host, which flags of
-- the environment are looked up by; and flags of Rust code without a wrong one
unfoldable pub refusal_by : BuildConfig → EnvSeen → Compiler → Option PlanError
refusal_by set env compiler =
    first_of (defaults_refusal_by set env compiler)
    (first_of (unset (codes "HOST") (host_of set env)) (inherited_refusal set.inherit_rustflags env.inherited))

-- what the compiler wants
abbrev pub tool_refusal : BuildConfig → EnvSeen → Look → Option PlanError
tool_refusal set env look = first_of (given_refusal set env) (refusal_by set env (compiler_of set env look))

-- the object of a source in the out dir
abbrev pub object_in : BuildConfig → EnvSeen → List ℕ → List ℕ
object_in set env source = object_path env.inherited set.source_root (unwrap_or (out_dir_of set env) []) source

-- the library in the out dir
abbrev pub library_in : BuildConfig → EnvSeen → List ℕ → List ℕ
library_in set env output = path_join (unwrap_or (out_dir_of set env) []) (library_file output)

-- before the folder of the objects is made: the out dir, and then the sources
unfoldable pub intermediate_refusal : BuildConfig → EnvSeen → Option PlanError
intermediate_refusal set env =
    first_of (out_dir_refusal (out_dir_of set env)) (sources_refusal (object_in set env) set.files)

-- for a library its name comes before them, and its added objects behind
unfoldable pub early_refusal : BuildConfig → EnvSeen → List ℕ → Option PlanError
early_refusal set env output =
    first_of (name_refusal output)
    (first_of (intermediate_refusal set env) (added_refusal (library_in set env output) set.objects))

abbrev pub is_empty : List (List ℕ) → Bool
is_empty [] = true
is_empty (s ∷ ss) = false

-- after it is made, where commands may run
unfoldable pub late_refusal : BuildConfig → EnvSeen → Look → Option PlanError
late_refusal set env look = if is_empty set.files then platform_refusal set env else tool_refusal set env look

-- what names of QNX's tools of archives want: one for the architecture
unfoldable pub qnx_arch_refusal : Info → Option PlanError
qnx_arch_refusal target = if lacks_qnx_arch target then Some (QnxArch target.full_arch) else None

-- what the choice of a tool of archives wants, where the settings name none: a known target and, where the environment
-- names none either, its name
abbrev pub found_refusal : ArchiveTool → BuildConfig → EnvSeen → Look → Option PlanError
found_refusal tool set env look =
    if is_none (variable_tool tool set env look) then qnx_arch_refusal (target_info set env) else None

abbrev pub known_refusal : ArchiveTool → BuildConfig → EnvSeen → Look → Option PlanError
known_refusal tool set env look = first_of (target_refusal set env) (found_refusal tool set env look)

abbrev pub choice_refusal : ArchiveTool → BuildConfig → EnvSeen → Look → Option PlanError
choice_refusal tool set env look = if is_none (set_program tool set) then known_refusal tool set env look else None

-- what flags of the environment want: the target and the host, which they are looked up by
unfoldable pub look_up_refusal : BuildConfig → EnvSeen → Option PlanError
look_up_refusal set env = first_of (unset (codes "TARGET") (target_of set env)) (unset (codes "HOST") (host_of set env))

-- what a tool of archives wants: its choice, and then its flags
abbrev pub archive_tool_refusal : ArchiveTool → BuildConfig → EnvSeen → Look → Option PlanError
archive_tool_refusal tool set env look = first_of (choice_refusal tool set env look) (look_up_refusal set env)

-- what the archiver wants, after the commands that compile were run
unfoldable pub archiver_refusal : BuildConfig → EnvSeen → Look → Option PlanError
archiver_refusal set env look = archive_tool_refusal Archiver set env look

-- what the tool that writes an archive's index wants
unfoldable pub ranlib_refusal : BuildConfig → EnvSeen → Look → Option PlanError
ranlib_refusal set env look = archive_tool_refusal Ranlib set env look

-- the variable of the sysroot that WebAssembly's threads want
abbrev pub musl_variable : List ℕ
musl_variable = codes "WASM_MUSL_SYSROOT"

-- a library of C++ for WebAssembly's threads is linked with what the sysroot has
unfoldable pub cpp_refusal : BuildConfig → EnvSeen → Option PlanError
cpp_refusal set env =
    if links_cpp set && is_wasm_linux (target_info set env)
    then unset musl_variable (last_value env.inherited musl_variable) else None

-- what the link lines want, after the library was written
unfoldable pub link_refusal : BuildConfig → EnvSeen → Look → Option PlanError
link_refusal set env look = cpp_refusal set env

-- on Ok nothing is refused
abbrev pub AllowedBy : {X : Type 0} → Option PlanError → Result X PlanError → Type 0
AllowedBy refusal result = OnOk result (refusal ≡ None)

-- an error is want of memory, or the refusal
abbrev pub RefusedBy : {X : Type 0} → Option PlanError → Result X PlanError → Type 0
RefusedBy refusal result = IfErr result (λ e. (e ≡ NoMemory) ⊎ (refusal ≡ Some e))
