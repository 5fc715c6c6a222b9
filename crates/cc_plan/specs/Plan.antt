-- The steps of a compile run, as a function of the settings, the environment and the output.
use Rattle.std.specs.Prelude.{ℕ, Bool, List, [], ◌∷◌, ◌++◌, map, Option, Some, unwrap_or, codes, if◌then◌else◌}
use Rattle.std.specs.List.{flat_map}
use Rattle.std.specs.Path.{path_parent}
use Rattle.cc_env.specs.Env.{EnvSeen}
use Rattle.cc_text.specs.Words.{when}
use Rattle.cc_host.specs.Command.{CommandSeen}
use Rattle.cc_host.specs.Part.{Step}
use Rattle.cc_host.specs.Question.{Look}
use Rattle.cc_host.specs.Part.Step.{Makes, Removes, Copies, Prints, Says}
use Rattle.cc_host.specs.declared.event.Scope.TheVariants.{Build}
use Rattle.cc_host.specs.declared.event.LineKind.{LineKind}
use Rattle.cc_host.specs.declared.event.LineKind.TheVariants.{Warning}
use Rattle.cc_host.specs.declared.event.Message.TheVariants.{GeneralWarning}
use Rattle.cc_plan.specs.declared.archiver.Archiver.{Archiver}
use Rattle.cc_plan.specs.declared.error.PlanError.{PlanError}
use Rattle.cc_flags.specs.declared.object.Object.{Object}
use Rattle.cc_flags.specs.declared.settings.BuildConfig.{BuildConfig}
use Rattle.cc_plan.specs.Archive as archive
use Rattle.cc_flags.specs.ArchiveNames.{is_msvc}
use Rattle.cc_plan.specs.Assembler.{assembler_of}
use Rattle.cc_plan.specs.Compile.{compile_of}
use Rattle.cc_flags.specs.Given.{out_dir_of, first_of}
use Rattle.cc_plan.specs.Archive.{archiver_of}
use Rattle.cc_plan.specs.Link.{printed_line, link_lines as lines_of}
use Rattle.cc_flags.specs.declared.link_line.LinkLine.{LinkLine}
use Rattle.cc_plan.specs.LibForm as form
use Rattle.cc_plan.specs.LibForm.{copy_path_of}
use Rattle.cc_flags.specs.Names.{library_name}
use Rattle.cc_plan.specs.Libtool.{lists_of, list_refusal}
use Rattle.cc_flags.specs.Object as object
use Rattle.cc_plan.specs.Refusal.{is_empty, library_in, archiver_refusal, target_refusal}
use Rattle.cc_flags.specs.Target.{target_info}
use Rattle.cc_plan.specs.Planned.{tool_of, warnings_of}
use Rattle.cc_tool.specs.Tool.{ToolSeen}

-- the folder of the objects and of the library
abbrev pub dir_of : BuildConfig → EnvSeen → List ℕ
dir_of set env = unwrap_or (out_dir_of set env) []

abbrev pub objects_of : BuildConfig → EnvSeen → List Object
objects_of set env = object.objects_of env.inherited set.source_root (dir_of set env) set.files

abbrev pub library_of : BuildConfig → EnvSeen → List ℕ → List ℕ
library_of set env output = library_in set env output

-- the assembler that goes with the tool
abbrev pub assembler_in : BuildConfig → EnvSeen → Look → ToolSeen
assembler_in set env look = assembler_of set env (tool_of set env look) look

-- the command of an object: that of the assembler for a source in its language, else that of the tool
abbrev pub compile_in : BuildConfig → EnvSeen → Look → Object → CommandSeen
compile_in set env look object =
    compile_of set (target_info set env) (tool_of set env look) (Some (assembler_in set env look)) object

-- one an object, in order
abbrev pub compiles_of : BuildConfig → EnvSeen → Look → List CommandSeen
compiles_of set env look = map (compile_in set env look) (objects_of set env)

-- the paths that the library gets, in order: those of the objects, and then the added ones
abbrev pub archived_of : BuildConfig → EnvSeen → List (List ℕ)
archived_of set env = archive.paths_of (objects_of set env) ++ set.objects

-- what an archiver wants of what it archives: paths that its list can hold, and a target that is known
unfoldable pub archived_refusal : BuildConfig → EnvSeen → Archiver → List (List ℕ) → Option PlanError
archived_refusal set env archiver paths = first_of (list_refusal archiver paths) (target_refusal set env)

-- what the archive wants, after the commands that compile were run: the archiver, and what that wants
unfoldable pub archive_refusal : BuildConfig → EnvSeen → Look → Option PlanError
archive_refusal set env look =
    first_of (archiver_refusal set env look) (archived_refusal set env (archiver_of set env look) (archived_of set env))

-- the lists of those paths that are written for the archiver, with their bytes
unfoldable pub lists_of_run : BuildConfig → EnvSeen → Look → List ℕ → List (List ℕ × List ℕ)
lists_of_run set env look output = lists_of (archiver_of set env look) (library_of set env output) (archived_of set env)

-- the archiver of a run has one form alone
unfoldable pub run_has_one_form : BuildConfig → EnvSeen → Look → Bool
run_has_one_form set env look = form.has_one_form (target_info set env) (archiver_of set env look)

-- the current folder is asked for before the library is written
unfoldable pub run_asks_folder : BuildConfig → EnvSeen → Look → List ℕ → Bool
run_asks_folder set env look output =
    archive.asks_folder (target_info set env) (archiver_of set env look) (library_of set env output)
    (archived_of set env)

-- the commands that write the library; `plain` says that the first one was refused, so that the plain form took its
-- place, and `here` is the current folder, where that is asked for
unfoldable pub archives_of : BuildConfig → EnvSeen → Look → Bool → List ℕ → List ℕ → List CommandSeen
archives_of set env look plain here output =
    archive.archives_of (target_info set env) (archiver_of set env look) env (library_of set env output) plain here
    (archived_of set env)

-- the commands that write its index
unfoldable pub indexes_of : BuildConfig → EnvSeen → Look → Bool → List ℕ → List CommandSeen
indexes_of set env look plain output =
    archive.indexes_of (target_info set env) (archiver_of set env look) env (library_of set env output) plain
    (archived_of set env)

-- the library's second file, by the name that a linker for Visual Studio looks for
abbrev pub copy_of : BuildConfig → EnvSeen → List ℕ → List ℕ
copy_of set env output = copy_path_of (library_of set env output) (library_name output)

-- a file is copied to a path, of which an old file is removed, or not
abbrev pub copy_by : Bool → List ℕ → List ℕ → List Step
copy_by copies from to = when copies (Removes to ∷ Copies from to ∷ [])

-- there the library is copied to that file
unfoldable pub copy_steps : BuildConfig → EnvSeen → List ℕ → List Step
copy_steps set env output = copy_by (is_msvc (target_info set env)) (library_of set env output) (copy_of set env output)

-- the library is linked by its name, and sought in the folder that its path has, where link lines are wanted
unfoldable pub link_lines : BuildConfig → EnvSeen → Look → List ℕ → List LinkLine
link_lines set env look output =
    lines_of set env (library_name output) (unwrap_or (path_parent (library_of set env output)) []) look

-- a warning as Cargo reads it
abbrev pub warning_line : List ℕ → List ℕ
warning_line text = codes "cargo:warning=" ++ text

-- a warning is printed where that is wanted, and said where the host listens
abbrev pub warning_steps : Bool → Bool → List ℕ → List Step
warning_steps prints listens text =
    when prints (Prints Warning (printed_line (warning_line text)) ∷ [])
    ++ when listens (Says (GeneralWarning text) ∷ [])

-- each of these warnings, in order
unfoldable pub warned_steps : BuildConfig → Bool → List (List ℕ) → List Step
warned_steps set listens texts = flat_map (warning_steps set.cargo_warnings listens) texts

-- the warnings of the tool; `warns_of_link` says whether the call is the one that warns of flags for the linker
abbrev pub tool_warnings : BuildConfig → EnvSeen → Bool → Bool → Look → List Step
tool_warnings set env listens warns_of_link look = warned_steps set listens (warnings_of set env warns_of_link look)

-- the warnings of the plan, where there is a source
abbrev pub plan_warnings : BuildConfig → EnvSeen → Bool → Look → List (List ℕ)
plan_warnings set env warns_of_link look = if is_empty set.files then [] else warnings_of set env warns_of_link look

-- the folder is made where there is a source
unfoldable pub folder_steps : BuildConfig → EnvSeen → List Step
folder_steps set env = if is_empty set.files then [] else Makes Build (dir_of set env) ∷ []

unfoldable pub prints : LineKind → List (List ℕ) → List Step
prints kind lines = map (λ line. Prints kind (printed_line line)) lines

-- the old library is removed
unfoldable pub removal_steps : BuildConfig → EnvSeen → List ℕ → List Step
removal_steps set env output = Removes (library_of set env output) ∷ []
