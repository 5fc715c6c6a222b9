-- What a stage of the code is seen as.
use Rattle.std.specs.Prelude.{◌≡◌, ℕ, Bool, List, [], ◌∷◌, ◌++◌, map, Option}
use Rattle.cc_host.specs.Command.{CommandSeen}
use Rattle.cc_host.specs.Part.{Step}
use Rattle.cc_host.specs.Part.Step.{Removes, Copies, Prints, Says}
use Rattle.cc_host.specs.declared.event.Role.TheVariants.{Archive, Index}
use Rattle.cc_plan.specs.Archive as archive
use Rattle.cc_flags.specs.ArchiveNames.{is_msvc}
use Rattle.cc_plan.specs.LibForm.{copy_path_of, has_one_form}
use Rattle.cc_plan.specs.Libtool.{lists_of}
use Rattle.cc_plan.specs.Link.{printed_line}
use Rattle.cc_plan.specs.Plan.{copy_by, warned_steps}
use Rattle.cc_flags.specs.declared.object.Object.{Object}
use Rattle.cc_flags.specs.declared.settings.BuildConfig.{BuildConfig}
use Rattle.cc_run.specs.declared.planned.Planned.{Planned}
use Rattle.cc_target.specs.Targets.{info_seen}
use Rattle.cc_build.specs.Stage.{Stage, calls, planned, compile_planned, finding_steps, asking_steps, written, writings}
use Rattle.cc_build.specs.Way.{Writing}
use Rattle.cc_build.specs.Stage.Stage.{Calls, RunsOne, RunsAll}
use Rattle.cc_plan.specs.declared.archiver.Library.{Library}
use Rattle.cc_build.specs.declared.stage.Stage.{Stage as Coded}
use Rattle.cc_build.specs.declared.stage.Stage.TheVariants.{Print, Say, Remove, Copy, RunOne, RunAll}

abbrev pub stage_seen : Coded → Stage
stage_seen (Print kind line) = Calls (Prints kind (printed_line line))
stage_seen (Say message) = Calls (Says message)
stage_seen (Remove path) = Calls (Removes path)
stage_seen (Copy from to) = Calls (Copies from to)
stage_seen (RunOne cmd) = RunsOne cmd
stage_seen (RunAll several) = RunsAll several.cmds.items

abbrev pub stages_seen : List Coded → List Stage
stages_seen = map stage_seen

-- warnings are given to the host, as lines where they are wanted, and one that listens is asked for the current folder
abbrev pub opening_of : BuildConfig → Bool → List (List ℕ) → Option (List ℕ) → List Step
opening_of set listens texts here = warned_steps set listens texts ++ finding_steps here

-- the commands that compile objects, each with the one at its place
abbrev pub compiles_by : Option (List ℕ) → List Object → List CommandSeen → List Planned
compiles_by here (object ∷ objects) (cmd ∷ cmds) = compile_planned here object cmd ∷ compiles_by here objects cmds
compiles_by here _ _ = []

-- these stages were added to the others
abbrev pub Adds : List Coded → List Coded → List Stage → Type 0
Adds old new stages = stages_seen new ≡ stages_seen old ++ stages

-- the commands that write a library, and then its index
abbrev pub commands_for : Library → Writing → List Planned
commands_for library writing =
    planned Archive
    (archive.archives_of (info_seen library.target.now) library.archiver.now library.env.now library.path.now
    writing.is_plain writing.here library.paths.now)
    ++ planned Index
    (archive.indexes_of (info_seen library.target.now) library.archiver.now library.env.now library.path.now
    writing.is_plain library.paths.now)

-- the old library is removed, the list of its objects is written where its archiver is libtool, and the current folder
-- is asked for or not
abbrev pub ready_steps : Library → List ℕ → List Step
ready_steps library here =
    Removes library.path.now
    ∷ (writings (lists_of library.archiver.now library.path.now library.paths.now)
    ++ asking_steps
    (archive.asks_folder
    (info_seen library.target.now) library.archiver.now library.path.now library.paths.now) here)

-- for Visual Studio it is copied
abbrev pub copying_steps : Library → List Step
copying_steps library =
    copy_by (is_msvc (info_seen library.target.now)) library.path.now (copy_path_of library.path.now library.name.now)

-- its commands are run, and it is copied
abbrev pub form_stages : Library → Writing → List Stage
form_stages library writing =
    written (has_one_form (info_seen library.target.now) library.archiver.now) writing.is_plain
    (commands_for library writing) ++ calls (copying_steps library)

-- the stages that write a library
abbrev pub library_seen : Library → Writing → List Stage
library_seen library writing = calls (ready_steps library writing.here) ++ form_stages library writing
