-- An archive alone: objects that are there already are archived into a library.
use Rattle.std.specs.Prelude.{ℕ, Bool, true, false, List, [], Option, Some, Result, is_some, if◌then◌else◌}
use Rattle.std.specs.Option.{option_map}
use Rattle.cc_env.specs.Env.{EnvSeen}
use Rattle.cc_host.specs.Question.{Look}
use Rattle.cc_host.specs.declared.event.Event.{Event}
use Rattle.cc_flags.specs.Given.{is_disabled}
use Rattle.cc_plan.specs.Plan.{archive_refusal}
use Rattle.cc_plan.specs.Refusal.{name_refusal, early_refusal}
use Rattle.cc_flags.specs.Given.{first_of}
use Rattle.cc_flags.specs.Settings.{archive_settings}
use Rattle.cc_flags.specs.declared.variables.Reads.{Reads}
use Rattle.cc_flags.specs.declared.settings.BuildConfig.{BuildConfig}
use Rattle.cc_build.specs.Attempts.{FirstOf}
use Rattle.cc_build.specs.Build.{BuildSeen}
use Rattle.cc_build.specs.Course.{Course, course_alone}
use Rattle.cc_build.specs.Error.{ErrorSeen}
use Rattle.cc_build.specs.Promises.{terms_for}
use Rattle.cc_build.specs.Refusal.{plan_error, disabled_error, archive_error}
use Rattle.cc_build.specs.Stage.{Stage, asked_then, library_commands, told_library}
use Rattle.cc_build.specs.Way.{Writing, Firsts, Repeats}
use Rattle.cc_build.specs.Went.{Ends}

-- what an archive alone reads variables for
abbrev pub archive_reads : Reads
archive_reads =
    record {
      disabled = true;
      debug = true;
      compiler = false;
      assembler = false;
      flag = false;
      archiver = true;
      ranlib = false;
      links = false;
    }

-- the build without sources, with these objects before its added ones
abbrev pub with_objects : BuildSeen → List (List ℕ) → BuildSeen
with_objects b objects = record b { config = archive_settings b.config objects }

-- the error of the checks before an archive: the name, whether commands may run, the out dir, and the objects that it
-- gets
abbrev pub unarchived_error : BuildConfig → EnvSeen → List ℕ → Option ErrorSeen
unarchived_error set env output =
    first_of (option_map (plan_error set env output) (name_refusal output))
    (if is_disabled env then Some disabled_error
    else option_map (plan_error set env output) (early_refusal set env output))

-- the error of settings that are refused: by those checks, or by the plan of the archive
abbrev pub creation_error : BuildConfig → EnvSeen → Look → List ℕ → Option ErrorSeen
creation_error set env look output = first_of (unarchived_error set env output) (archive_error set env look output)

-- The archiver is asked for, the old library is removed, the new one is written, and the lines of the variables that
-- were read are printed. Settings that the checks refuse have no stage.
abbrev pub creation_stages : BuildConfig → EnvSeen → Writing → Look → Firsts → List ℕ → List Stage
creation_stages set env writing look firsts output =
    if is_some (unarchived_error set env output) then []
    else asked_then (archive_refusal set env look)
    (told_library set env archive_reads writing look firsts output)

-- Ok: nothing is refused, the library was written, and behind it exactly those lines were printed. Else the first
-- stages were done, and the error has its cause.
abbrev pub CreationEnds : {T : Type 0} → BuildSeen → Bool → List ℕ → Result T ErrorSeen → Look → List Event
    → Course → Type 0
CreationEnds b listens output result look part c =
    (writing : Writing) × (firsts : Firsts)
    × (Repeats b.config firsts
    × Ends (terms_for b listens c) (creation_error b.config b.env look output)
    (creation_stages b.config b.env writing look firsts output) part result c.before c.after)

-- no command but those of the library, in their order, with one attempt for each
abbrev pub ArchivesFirst : BuildSeen → List ℕ → Look → List Event → Type 0
ArchivesFirst b output look part =
    (writing : Writing) × FirstOf (library_commands b.config b.env look writing output) part

-- so it ended, with this patience of its host, and with some left of these turns
abbrev pub Creates : {T : Type 0} → BuildSeen → Bool → Option ℕ → ℕ → List ℕ → Result T ErrorSeen → Look
    → List Event → Type 0
Creates b listens patience turns output result look part =
    (left : ℕ) × CreationEnds b listens output result look part (course_alone patience turns left)
