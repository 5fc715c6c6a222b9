-- A library is refreshed: which stages are done, and which files are read.
use Rattle.std.specs.Prelude.{◌≡◌, ◌≢◌, ◌⊎◌, ℕ, List, [], ◌∷◌, ◌++◌, Bool, Option, Some, None, is_some, slice_get, codes, Result, Ok, Err, IfOk, if◌then◌else◌}
use Rattle.cc_host.specs.Event.{Rose}
use Rattle.cc_host.specs.Part.Step.{Writes}
use Rattle.cc_host.specs.Question.{Look, exists_question}
use Rattle.cc_host.specs.declared.event.Event.{Event}
use Rattle.cc_host.specs.declared.question.Question.{Question}
use Rattle.cc_flags.specs.Given.{first_of}
use Rattle.cc_flags.specs.declared.object.Object.{Object}
use Rattle.cc_plan.specs.Plan.{objects_of}
use Rattle.cc_plan.specs.Questions.{RunAsks}
use Rattle.cc_plan.specs.Refusal.{early_refusal}
use Rattle.cc_run.specs.declared.planned.Planned.{Planned}
use Rattle.cc_build.specs.Build.{BuildSeen}
use Rattle.cc_build.specs.Course.{Course}
use Rattle.cc_build.specs.Error.{ErrorSeen}
use Rattle.cc_build.specs.Promises.{terms_for}
use Rattle.cc_build.specs.Refusal.{archive_error, link_error, refusal_error}
use Rattle.cc_build.specs.RunPlan.{checked_then}
use Rattle.cc_build.specs.Stage.{Stage, beside, calls, compiles_planned, later_stages}
use Rattle.cc_build.specs.Stage.Stage.{Asks}
use Rattle.cc_build.specs.Way.{Way, Found, Hears, Repeats, chosen}
use Rattle.cc_build.specs.Went.{Terms, Means, Went, Halted}
use Rattle.cc_build.specs.declared.error.ErrorKind.TheVariants.{IOError}
use Rattle.cc_fresh.specs.Choice.{Chooses, choices_of}
use Rattle.cc_fresh.specs.Entries.{AreEntries}
use Rattle.cc_fresh.specs.Reads.{Read}
use Rattle.cc_fresh.specs.Record.{record_text}
use Rattle.cc_fresh.specs.Unit.{units_of}
use Rattle.cc_fresh.specs.declared.reason.Reason.{Reason}
use Rattle.cc_fresh.specs.declared.record.Entry.{Entry}
use Rattle.cc_fresh.specs.declared.unit.TranslationUnit.{TranslationUnit}
use Rattle.cc_fresh.specs.declared.unit.UnitState.{UnitState}

-- ---- the files

-- the reads of some files and the count of their faults, before a call and behind it
pub record FilesSeen : Type 0 where
  pub old : List Read
  pub new : List Read
  pub before : ℕ
  pub now : ℕ

abbrev pub files_seen : {X : Type 0} → (X → List Read) → (X → ℕ) → X → X → FilesSeen
files_seen reads faults old new =
    record { old = reads old; new = reads new; before = faults old; now = faults new }

-- the error of a file that couldn't be read
unfoldable pub read_error : List ℕ → ErrorSeen
read_error path = record { kind = IOError; subject = path; message = codes "failed to read " ++ path }

-- it is that of the next read
abbrev pub IsReadError : ErrorSeen → List Read → ℕ → ℕ → Type 0
IsReadError e [] before now = ⊥
IsReadError e (next ∷ more) before now = (e ≡ read_error next.0) × Rose before now

-- ---- the questions

-- one that a run asks, or whether the object of a source is there
abbrev pub RefreshAsks : BuildSeen → Look → Question → Type 0
RefreshAsks b look q =
    RunAsks b.config b.env look q
    ⊎ ((place : ℕ) × (o : Object) × ((slice_get (objects_of b.config b.env) place ≡ Some o)
    × (q ≡ exists_question o.dst)))

-- ---- the stages

-- what refuses the settings behind the sources
abbrev pub later_error : BuildSeen → Look → List ℕ → Option ErrorSeen
later_error b look output =
    first_of (archive_error b.config b.env look output) (link_error b.config b.env look output)

-- the record is written with these bytes, where nothing is refused
abbrev pub record_stages : Option ErrorSeen → List ℕ → List ℕ → List Stage
record_stages refusal path bytes = if is_some refusal then [] else calls (Writes path bytes ∷ [])

-- these commands are run, the library is written and its lines are printed, and then the record is written
abbrev pub chosen_stages : BuildSeen → Way → Look → List ℕ → List Planned → List ℕ → List ℕ → List Stage
chosen_stages b way look output cmds path bytes =
    (beside cmds ++ later_stages b.config b.env way look output)
    ++ record_stages (later_error b look output) path bytes

-- Those of a compile run, but that it is asked in between which objects are there, and that the chosen commands alone
-- are run. Behind them the record is written.
abbrev pub refresh_stages : BuildSeen → Way → Look → List ℕ → List Bool → List ℕ → List ℕ → List Stage
refresh_stages b way look output choices path bytes =
    checked_then (early_refusal b.config b.env output) b.config b.env way.found look
    (Asks ∷ chosen_stages b way look output
    (chosen choices (compiles_planned b.config b.env way.found.here look)) path bytes)

-- the first of these stages were done, and then a file couldn't be read
pub record Unread (t : Terms) (stages : List Stage) (part : List Event) (e : ErrorSeen) (more : List Read)
    (x z : Means) (faults now : ℕ) : Type 0 where
  pub before : List Stage
  pub after : List Stage
  pub stages_are : stages ≡ before ++ after
  pub some_left : after ≢ []
  pub went : Went t before part x z
  pub cause : IsReadError e more faults now

-- Ok: nothing is refused, all stages were done, and no read is left. Else the first stages were done, and the error has
-- its cause, which may be a file.
abbrev pub EndsWith : {T : Type 0} → Terms → Option ErrorSeen → List Stage → List Read → Result T ErrorSeen → List Event
    → Means → Means → ℕ → ℕ → Type 0
EndsWith t refusal stages more (Ok _) part x z faults now = (more ≡ []) × (refusal ≡ None) × Went t stages part x z
EndsWith t refusal stages more (Err e) part x z faults now =
    Halted t refusal stages part e x z ⊎ Unread t stages part e more x z faults now

-- ---- the whole

-- the sources of a build whose current folder is known or not
abbrev pub units_for : BuildSeen → Found → Look → List TranslationUnit
units_for b found look =
    units_of (objects_of b.config b.env) (compiles_planned b.config b.env found.here look)

-- What a refresh does, on every exit.
pub record Refreshed (b : BuildSeen) (listens : Bool) (output path : List ℕ) (checks : Bool)
    (result : Result (List Reason) ErrorSeen) (files : FilesSeen) (look : Look) (part : List Event) (c : Course)
    : Type 0 where
  -- what the run finds out as it goes; where lines are repeated, all of them are printed, and a host that listens is
  -- asked for the current folder
  pub way : Way
  pub hears : Hears listens way.found
  pub repeats : Repeats b.config way.firsts
  -- these reads were made, and behind them those would come
  pub told : List Read
  pub more : List Read
  pub adds : files.new ≡ files.old ++ told
  -- first what is read for the choice, and then what is read for the entries
  pub choice : List Read
  pub made : List Read
  pub cut : told ++ more ≡ choice ++ made
  -- what is found out by them: what was kept, the reasons, and the entries that are kept from now on
  pub kept : List Entry
  pub reasons : List Reason
  pub states : List UnitState
  pub entries : List Entry
  pub chooses : Chooses path (units_for b way.found look) look kept reasons states choice
  pub entries_are : AreEntries checks kept (units_for b way.found look) states entries made
  -- Ok: all reads and all stages were done, and these are the reasons. Else the first ones were.
  pub answer : IfOk result (λ rs. rs ≡ reasons)
  pub outcome : EndsWith (terms_for b listens c) (refusal_error b.config b.env look output)
      (refresh_stages b way look output (choices_of reasons) path (record_text entries)) more result part
      c.before c.after files.before files.now
  -- the choice was read to its end, or the run ended before it: so, whichever commands are chosen and whatever is kept
  pub chosen_first : ((rest : List Read) × (told ≡ choice ++ rest))
      ⊎ ((choices : List Bool) (bytes : List ℕ)
      → EndsWith (terms_for b listens c) (refusal_error b.config b.env look output)
      (refresh_stages b way look output choices path bytes) more result part
      c.before c.after files.before files.now)
