-- The stages of a compile run: what it asks of its host, one after another.
use Rattle.std.specs.Prelude.{◌≡◌, ℕ, Bool, true, false, not, List, [], ◌∷◌, ◌++◌, map, Option, None, is_some, option_to_list, unwrap_or, if◌then◌else◌}
use Rattle.std.specs.List.{flat_map}
use Rattle.std.specs.Option.{option_map}
use Rattle.std.specs.Path.{path_parent}
use Rattle.cc_env.specs.Env.{EnvSeen}
use Rattle.cc_host.specs.Command.{CommandSeen}
use Rattle.cc_host.specs.CompileCommand.{compile_command}
use Rattle.cc_host.specs.Part.{Step}
use Rattle.cc_host.specs.Part.Step.{Finds, Writes}
use Rattle.cc_host.specs.Question.{Look}
use Rattle.cc_host.specs.declared.event.LineKind.TheVariants.{Link, Rerun}
use Rattle.cc_host.specs.declared.event.Role.{Role}
use Rattle.cc_host.specs.declared.event.Role.TheVariants.{Compile, Archive, Index}
use Rattle.cc_flags.specs.Given.{is_disabled}
use Rattle.cc_plan.specs.Link.{printed_links, link_lines as lines_of}
use Rattle.cc_plan.specs.Plan.{compile_in, compiles_of, run_has_one_form, run_asks_folder, archives_of, indexes_of, lists_of_run, copy_steps, archive_refusal, link_lines, plan_warnings, warned_steps, objects_of, prints, warning_steps, folder_steps, removal_steps}
use Rattle.cc_plan.specs.Quiet.{quiet_warnings}
use Rattle.cc_plan.specs.Refusal.{is_empty, early_refusal, late_refusal, link_refusal}
use Rattle.cc_plan.specs.Reruns.{rerun_line, rerun_names}
use Rattle.cc_plan.specs.declared.error.PlanError.{PlanError}
use Rattle.cc_flags.specs.declared.link_line.LinkLine.{LinkLine}
use Rattle.cc_flags.specs.declared.object.Object.{Object}
use Rattle.cc_flags.specs.declared.variables.Reads.{Reads}
use Rattle.cc_flags.specs.declared.settings.BuildConfig.{BuildConfig}
use Rattle.cc_run.specs.declared.planned.Planned.{Planned}
use Rattle.cc_text.specs.Words.{when}
use Rattle.cc_build.specs.Way.{Way, Found, Writing, Firsts, chosen}

-- A call of the host, questions, a command that is tried, a command that runs alone, or commands that run beside each
-- other. One that is tried runs to its end, and says whether it was refused: the run goes on either way.
pub data Stage : Type 0 where
  Calls : Step → Stage
  Asks : Stage
  Tries : Bool → Planned → Stage
  RunsOne : Planned → Stage
  RunsAll : List Planned → Stage

abbrev pub commands_of : Stage → List Planned
commands_of (Calls step) = []
commands_of Asks = []
commands_of (Tries refused p) = p ∷ []
commands_of (RunsOne p) = p ∷ []
commands_of (RunsAll ps) = ps

-- the commands of these stages, in order
abbrev pub commands_in : List Stage → List Planned
commands_in = flat_map commands_of

-- those of them that are started as children: one that is tried runs in one call of the host
abbrev pub children_of : Stage → List Planned
children_of (Calls step) = []
children_of Asks = []
children_of (Tries refused p) = []
children_of (RunsOne p) = p ∷ []
children_of (RunsAll ps) = ps

abbrev pub children_in : List Stage → List Planned
children_in = flat_map children_of

-- one call of the host after another
abbrev pub calls : List Step → List Stage
calls = map Calls

-- commands that are to run in a role
abbrev pub planned : Role → List CommandSeen → List Planned
planned role = map (λ cmd. record { role = role; cmd = cmd; message = None })

-- commands that run beside each other, where there is more than one
abbrev pub beside : List Planned → List Stage
beside [] = []
beside (p ∷ []) = RunsOne p ∷ []
beside (p ∷ q ∷ ps) = RunsAll (p ∷ q ∷ ps) ∷ []

-- one command after another
abbrev pub in_turn : List Planned → List Stage
in_turn = map RunsOne

-- all of these commands but the first
abbrev pub behind_first : List Planned → List Planned
behind_first [] = []
behind_first (p ∷ ps) = ps

-- one command after another, of which the first is tried
abbrev pub tried : Bool → List Planned → List Stage
tried refused [] = []
tried refused (p ∷ ps) = Tries refused p ∷ in_turn ps

-- The commands of a library. They run one after another, and the first is tried, since the archiver may not know its
-- form: where it is refused, those of the plain form follow. Of an archiver that has one form none is tried.
abbrev pub written : Bool → Bool → List Planned → List Stage
written one_form is_plain cmds = if one_form then in_turn cmds else tried is_plain cmds

-- those of them that are started as children
abbrev pub written_children : Bool → List Planned → List Planned
written_children one_form cmds = if one_form then cmds else behind_first cmds

-- these files are written, each with its bytes
abbrev pub writings : List (List ℕ × List ℕ) → List Step
writings files = map (λ file. Writes file.0 file.1) files

-- questions, and then these stages, unless the answers refuse them
abbrev pub asked_then : Option PlanError → List Stage → List Stage
asked_then refusal stages = Asks ∷ (if is_some refusal then [] else stages)

-- the folder is made where there is a source
unfoldable pub folder_stages : BuildConfig → EnvSeen → List Stage
folder_stages set env = calls (folder_steps set env)

-- the current folder, which is asked for where it is wanted
abbrev pub finding_steps : Option (List ℕ) → List Step
finding_steps here = map Finds (option_to_list here)

-- the warnings of the plan are given to the host, and one that listens is asked for the current folder
abbrev pub opening_steps : BuildConfig → EnvSeen → Found → Look → List Step
opening_steps set env found look =
    warned_steps set (is_some found.here) (plan_warnings set env found.warns_of_link look) ++ finding_steps found.here

-- such a command, with its message where the current folder is known
abbrev pub compile_planned : Option (List ℕ) → Object → CommandSeen → Planned
compile_planned here object cmd =
    record { role = Compile; cmd = cmd; message = option_map (compile_command cmd object.src object.dst) here }

-- one for each source, in order
unfoldable pub compiles_planned : BuildConfig → EnvSeen → Option (List ℕ) → Look → List Planned
compiles_planned set env here look =
    map (λ object. compile_planned here object (compile_in set env look object)) (objects_of set env)

-- the warnings of the plan are given to the host, and then the sources are compiled
unfoldable pub compile_stages : BuildConfig → EnvSeen → Found → Look → List Stage
compile_stages set env found look =
    calls (opening_steps set env found look) ++ beside (compiles_planned set env found.here look)

-- the old library is removed
unfoldable pub removal_stages : BuildConfig → EnvSeen → List ℕ → List Stage
removal_stages set env output = calls (removal_steps set env output)

-- the commands that write the library, and then its index
abbrev pub library_commands : BuildConfig → EnvSeen → Look → Writing → List ℕ → List Planned
library_commands set env look writing output =
    planned Archive (archives_of set env look writing.is_plain writing.here output)
    ++ planned Index (indexes_of set env look writing.is_plain output)

-- the current folder, which is asked for or not
abbrev pub asking_steps : Bool → List ℕ → List Step
asking_steps asks here = when asks (Finds here ∷ [])

-- before them the list of the paths of all objects is written, where the archiver is libtool, and the current folder is
-- asked for, where they run in that of the library
unfoldable pub ready_stages : BuildConfig → EnvSeen → Look → List ℕ → List ℕ → List Stage
ready_stages set env look here output =
    calls (writings (lists_of_run set env look output) ++ asking_steps (run_asks_folder set env look output) here)

-- those commands are run
unfoldable pub archive_stages : BuildConfig → EnvSeen → Look → Writing → List ℕ → List Stage
archive_stages set env look writing output =
    written (run_has_one_form set env look) writing.is_plain (library_commands set env look writing output)

-- for Visual Studio the library is copied to the file that its linkers look for
unfoldable pub copy_stages : BuildConfig → EnvSeen → List ℕ → List Stage
copy_stages set env output = calls (copy_steps set env output)

-- the folder that a library's path has
abbrev pub folder_in : List ℕ → List ℕ
folder_in library = unwrap_or (path_parent library) []

-- the link lines of a library of this name and path
abbrev pub links_of : BuildConfig → EnvSeen → List ℕ → List ℕ → Look → List LinkLine
links_of set env name library look = lines_of set env name (folder_in library) look

-- What such a call reads variables for: it plans no tool that writes an index and asks about no flag, and plans a
-- compiler only for sources.
abbrev pub IsRun : BuildConfig → Reads → Type 0
IsRun set reads =
    ((reads.ranlib ≡ false) × (reads.flag ≡ false))
    × ((reads.compiler ≡ true → is_empty set.files ≡ false) × (reads.assembler ≡ true → is_empty set.files ≡ false))

-- what a run reads variables for; it plans a compiler where there is a source
abbrev pub run_reads : BuildConfig → Reads
run_reads set =
    record {
      disabled = true;
      debug = true;
      compiler = not (is_empty set.files);
      assembler = not (is_empty set.files);
      flag = false;
      archiver = true;
      ranlib = false;
      links = true;
    }

-- the lines that tell Cargo of variables
abbrev pub rerun_lines : List (List ℕ) → List (List ℕ)
rerun_lines names = map rerun_line names

-- a host that listens is told of these warnings, and none of them is printed
abbrev pub said_steps : Bool → List (List ℕ) → List Step
said_steps listens texts = flat_map (warning_steps false listens) texts

-- these link lines are printed, and then those of these variables
abbrev pub cargo_steps : Firsts → List LinkLine → List (List ℕ) → List Step
cargo_steps firsts lines names =
    prints Link (printed_links firsts.links lines) ++ prints Rerun (rerun_lines (chosen firsts.names names))

-- right before those lines a host that listens is told of warnings
abbrev pub ending_steps : Bool → List (List ℕ) → Firsts → List LinkLine → List (List ℕ) → List Step
ending_steps listens texts firsts lines names = said_steps listens texts ++ cargo_steps firsts lines names

abbrev pub printed_stages : Bool → List (List ℕ) → Firsts → List LinkLine → List (List ℕ) → List Stage
printed_stages listens texts firsts lines names = calls (ending_steps listens texts firsts lines names)

-- the lines of the variables that a call reads are printed
abbrev pub name_stages : BuildConfig → EnvSeen → Reads → Look → Firsts → List Stage
name_stages set env reads look firsts =
    calls (prints Rerun (rerun_lines (chosen firsts.names (rerun_names reads set env look))))

-- a host that listens is told of the compiler that decides on the C++ library, the link lines are printed, and then
-- those of the variables that the run read
unfoldable pub link_stages : BuildConfig → EnvSeen → Bool → Look → Firsts → List ℕ → List Stage
link_stages set env listens look firsts output =
    printed_stages listens (quiet_warnings set env look) firsts (link_lines set env look output)
    (rerun_names (run_reads set) set env look)

-- questions on the link lines, which are then printed
abbrev pub ending_stages : BuildConfig → EnvSeen → Way → Look → List ℕ → List Stage
ending_stages set env way look output =
    asked_then (link_refusal set env look) (link_stages set env (is_some way.found.here) look way.firsts output)

-- the library is written and copied
abbrev pub writing_stages : BuildConfig → EnvSeen → Writing → Look → List ℕ → List Stage
writing_stages set env writing look output =
    ready_stages set env look writing.here output
    ++ (archive_stages set env look writing output ++ copy_stages set env output)

-- the old library is removed before
abbrev pub library_stages : BuildConfig → EnvSeen → Writing → Look → List ℕ → List Stage
library_stages set env writing look output = removal_stages set env output ++ writing_stages set env writing look output

-- the sources are compiled, and by questions the lines of the variables that the call reads are printed
abbrev pub told_sources : BuildConfig → EnvSeen → Reads → Found → Look → Firsts → List Stage
told_sources set env reads found look firsts =
    compile_stages set env found look ++ Asks ∷ name_stages set env reads look firsts

-- the same of the library, which is written
abbrev pub told_library : BuildConfig → EnvSeen → Reads → Writing → Look → Firsts → List ℕ → List Stage
told_library set env reads writing look firsts output =
    library_stages set env writing look output ++ Asks ∷ name_stages set env reads look firsts

-- the stages behind the sources
unfoldable pub later_stages : BuildConfig → EnvSeen → Way → Look → List ℕ → List Stage
later_stages set env way look output =
    asked_then (archive_refusal set env look)
    (library_stages set env way.writing look output ++ ending_stages set env way look output)

-- The stages where commands may run. The questions of each part come right before it, and behind what the answers
-- refuse comes nothing.
abbrev pub asked_stages : BuildConfig → EnvSeen → Way → Look → List ℕ → List Stage
asked_stages set env way look output =
    asked_then (late_refusal set env look)
    (compile_stages set env way.found look ++ later_stages set env way look output)

-- the stages behind the folder: none where no command may run
unfoldable pub late_stages : BuildConfig → EnvSeen → Way → Look → List ℕ → List Stage
late_stages set env way look output = if is_disabled env then [] else asked_stages set env way look output

-- The stages of a compile run. Settings that are refused before the folder is made have none.
unfoldable pub planned_stages : BuildConfig → EnvSeen → Way → Look → List ℕ → List Stage
planned_stages set env way look output =
    if is_some (early_refusal set env output) then [] else folder_stages set env ++ late_stages set env way look output
