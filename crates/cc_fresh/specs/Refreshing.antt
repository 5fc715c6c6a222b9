-- The parts of a refresh: it is prepared, its commands are run, and its record is written.
use Rattle.std.specs.Prelude.{◌≡◌, ◌≢◌, ◌⊎◌, ℕ, List, [], ◌∷◌, ◌++◌, Bool, false, Option, None, Result, Ok, Err, IfOk}
use Rattle.cc_host.specs.Part.Step.{Writes}
use Rattle.cc_host.specs.Question.{Look}
use Rattle.cc_host.specs.declared.event.Event.{Event}
use Rattle.cc_flags.specs.Given.{is_disabled, first_of}
use Rattle.cc_plan.specs.Plan.{objects_of}
use Rattle.cc_plan.specs.Refusal.{early_refusal, late_refusal}
use Rattle.cc_build.specs.Build.{BuildSeen}
use Rattle.cc_build.specs.Course.{Course}
use Rattle.cc_build.specs.Error.{ErrorSeen, no_memory}
use Rattle.cc_build.specs.Refusal.{early_error, late_error}
use Rattle.cc_build.specs.RunPlan.{checked_then}
use Rattle.cc_build.specs.Shows.{shows_of}
use Rattle.cc_build.specs.Stage.{Stage, calls, opening_steps, compiles_planned, folder_stages}
use Rattle.cc_build.specs.Stage.Stage.{Asks}
use Rattle.cc_build.specs.Way.{Found, Writing, Firsts, Hears, Repeats, way_of, chosen}
use Rattle.cc_build.specs.Went.{Terms, Means, terms, Went}
use Rattle.cc_fresh.specs.Choice.{Chooses, MayChoose, choices_of}
use Rattle.cc_fresh.specs.Entries.{AreEntries}
use Rattle.cc_fresh.specs.Reads.{Read, Adds}
use Rattle.cc_fresh.specs.Record.{record_text}
use Rattle.cc_fresh.specs.Refresh.{FilesSeen, EndsWith, read_error, later_error, chosen_stages, units_for}
use Rattle.cc_fresh.specs.Unit.{units_of}
use Rattle.cc_fresh.specs.declared.choice.Choice.{Choice}
use Rattle.cc_fresh.specs.declared.file.ReadError.{ReadError}
use Rattle.cc_fresh.specs.declared.file.ReadError.TheVariants.{Fault, NoMemory}
use Rattle.cc_fresh.specs.declared.reason.Reason.{Reason}
use Rattle.cc_fresh.specs.declared.record.Entry.{Entry}
use Rattle.cc_fresh.specs.declared.refresh.Prepared.{Prepared}
use Rattle.cc_fresh.specs.declared.unit.TranslationUnit.{TranslationUnit}

-- these reads were made for a choice
abbrev pub IsChoice : List ℕ → List TranslationUnit → Look → Choice → List Read → Type 0
IsChoice path units look c told =
    Chooses path units look c.kept c.reasons c.states.items told × (c.choices.items ≡ choices_of c.reasons)

-- the error of files that weren't read further
abbrev pub IsErrorOf : ReadError → ErrorSeen → Type 0
IsErrorOf NoMemory e = e ≡ no_memory
IsErrorOf (Fault path) e = (e ≡ no_memory) ⊎ (e ≡ read_error path)

-- the run was opened, and the choice was made
pub record IsPrepared (b : BuildSeen) (listens : Bool) (output path : List ℕ) (p : Prepared) (files : FilesSeen)
    (look : Look) (part : List Event) (found : Found) : Type 0 where
  pub early : early_refusal b.config b.env output ≡ None
  pub enabled : is_disabled b.env ≡ false
  pub late : late_refusal b.config b.env look ≡ None
  pub shows : p.plan.shows ≡ shows_of b.config b.env listens
  pub commands : p.plan.commands.items ≡ compiles_planned b.config b.env found.here look
  pub units : p.units.items ≡ units_of (objects_of b.config b.env) p.plan.commands.items
  pub read : Adds files.old files.new (IsChoice path p.units.items look p.choice)
  pub went : (t : Terms) (x : Means)
      → Went t ((folder_stages b.config b.env ++ Asks ∷ calls (opening_steps b.config b.env found look)) ++ Asks ∷ [])
      part x x

-- Ok: it was prepared. Else it ended before the stages behind the choice, whichever these are and whatever refuses
-- them.
abbrev pub PrepareEnds : BuildSeen → Bool → List ℕ → List ℕ → Result Prepared ErrorSeen → FilesSeen → Look
    → List Event → Type 0
PrepareEnds b listens output path (Ok p) files look part =
    (found : Found) × (Hears listens found × IsPrepared b listens output path p files look part found)
PrepareEnds b listens output path (Err e) files look part =
    (found : Found) × (told more : List Read)
    × (Hears listens found × (files.new ≡ files.old ++ told)
    × MayChoose path (units_for b found look) look (told ++ more)
    × ((t : Terms) (x : Means) (refusal : Option ErrorSeen) (rest : List Stage) → rest ≢ []
    → EndsWith {T = Unit {0}} t
    (first_of (early_error b.config b.env output) (first_of (late_error b.config b.env look output) refusal))
    (checked_then (early_refusal b.config b.env output) b.config b.env found look (Asks ∷ rest)) more (Err e) part x x
    files.before files.now))

-- the entries were made and the record was written, or it ended before
abbrev pub FinishEnds : Bool → List ℕ → List TranslationUnit → Choice → Result (List Reason) ErrorSeen → FilesSeen
    → List Event → Type 0
FinishEnds checks path units choice result files part =
    (entries : List Entry) × (told more : List Read)
    × ((files.new ≡ files.old ++ told) × AreEntries checks choice.kept units choice.states.items entries (told ++ more)
    × IfOk result (λ rs. rs ≡ choice.reasons)
    × ((t : Terms) (x : Means)
    → EndsWith t None (calls (Writes path (record_text entries) ∷ [])) more result part x x files.before files.now))

-- The chosen commands were run, the library was written, the lines were printed, and the record was written; or it
-- ended before. It is so whatever was found out at the opening.
abbrev pub PerformEnds : BuildSeen → List ℕ → List ℕ → Bool → Prepared → Result (List Reason) ErrorSeen → FilesSeen
    → Look → List Event → Course → Type 0
PerformEnds b output path checks p result files look part c =
    (found : Found) → Hears p.plan.shows.listens found
    → (writing : Writing) × (firsts : Firsts) × (entries : List Entry) × (told more : List Read)
    × (Repeats b.config firsts × (files.new ≡ files.old ++ told)
    × AreEntries checks p.choice.kept p.units.items p.choice.states.items entries (told ++ more)
    × IfOk result (λ rs. rs ≡ p.choice.reasons)
    × EndsWith (terms p.plan.shows c.total c.patience) (later_error b look output)
    (chosen_stages b (way_of found writing firsts) look output
    (chosen p.choice.choices.items p.plan.commands.items) path (record_text entries)) more result part
    c.before c.after files.before files.now)
