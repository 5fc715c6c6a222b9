-- How the parts of a run end: each asks what it wants to know, and then does its stages.
use Rattle.std.specs.Prelude.{◌≡◌, ◌≢◌, ℕ, Bool, List, ◌∷◌, [], ◌++◌, Option, None, is_some, unwrap_or, Result, Ok, Err}
use Rattle.std.specs.Global.{Vec}
use Rattle.std.specs.Option.{option_map}
use Rattle.cc_host.specs.Question.{Look, Answer, Holds}
use Rattle.cc_host.specs.declared.event.Event.{Event}
use Rattle.cc_plan.specs.Plan.{archive_refusal}
use Rattle.cc_plan.specs.Quiet.{quiet_warnings}
use Rattle.cc_plan.specs.Refusal.{late_refusal, link_refusal}
use Rattle.cc_flags.specs.Given.{first_of}
use Rattle.cc_plan.specs.Reruns.{rerun_names}
use Rattle.cc_plan.specs.declared.error.PlanError.{PlanError}
use Rattle.cc_flags.specs.declared.object.Object.{Object}
use Rattle.cc_plan.specs.declared.plan.Plan.{Plan}
use Rattle.cc_flags.specs.declared.variables.Reads.{Reads}
use Rattle.cc_run.specs.declared.planned.Planned.{Planned}
use Rattle.cc_run.specs.declared.planned.Shows.{Shows}
use Rattle.cc_build.specs.Build.{build_in}
use Rattle.cc_build.specs.Course.{Course, OnCourse, CallsEnd}
use Rattle.cc_build.specs.Error.{ErrorSeen}
use Rattle.cc_build.specs.Refusal.{plan_error, late_error}
use Rattle.cc_build.specs.RunPlan.{opened_then, RunOpens, BehindOpening}
use Rattle.cc_build.specs.Seen.{stages_seen, opening_of, compiles_by, ready_steps, form_stages, library_seen}
use Rattle.cc_build.specs.Stage.{Stage, calls, beside, finding_steps, asked_then, opening_steps, compiles_planned, library_stages, link_stages, links_of, name_stages, printed_stages, told_library}
use Rattle.cc_build.specs.Stage.Stage.{Asks, Tries}
use Rattle.cc_build.specs.Way.{Found, Writing, writing_of, Firsts, Hears, Repeats}
use Rattle.cc_build.specs.Went.{Terms, Means, terms, Went, Halted, Ends}
use Rattle.cc_plan.specs.declared.archiver.Library.{Library}
use Rattle.cc_build.specs.declared.stage.Stage.{Stage as Coded}
use Rattle.cc_build.specs.declared.task.Task.{Task}

abbrev pub task_terms : Task → Course → Terms
task_terms task c = terms task.reporting.shows c.total c.patience

abbrev pub error_in : Task → Option PlanError → Option ErrorSeen
error_in task refusal = option_map (plan_error task.set.now task.env.now task.output.now) refusal

-- questions were asked, and these stages were done, unless the answers refused them; or the error has its cause
abbrev pub PhaseEnds : {T : Type 0} → Task → Option PlanError → List Stage → Result T ErrorSeen → List Event
    → Course → Type 0
PhaseEnds task refusal stages result part c =
    Ends (task_terms task c) (error_in task refusal) (asked_then refusal stages) part result c.before c.after

-- the current folder was told, where it is wanted; or the error has its cause
abbrev pub HereEnds : Bool → Result (Option (List ℕ)) ErrorSeen → List Event → Type 0
HereEnds is_wanted (Ok here) part =
    (is_some here ≡ is_wanted) × CallsEnd {T = Unit {0}} (finding_steps here) part (Ok tt)
HereEnds is_wanted (Err e) part =
    (here : Option (List ℕ)) → is_some here ≡ is_wanted → CallsEnd {T = Unit {0}} (finding_steps here) part (Err e)

-- The warnings were given to the host, and the folder was told, where the host listens; or the error has its cause. The
-- questions right before it are the stage at which memory is wanted for the warnings. No child is started, so both hold
-- on any terms, and nothing is used up.
abbrev pub OpensEnd : Task → List (List ℕ) → Result (Option (List ℕ)) ErrorSeen → List Event → Type 0
OpensEnd task texts (Ok here) part =
    (is_some here ≡ task.reporting.shows.listens)
    × ((t : Terms) (x : Means)
    → Went t (Asks ∷ calls (opening_of task.set.now task.reporting.shows.listens texts here)) part x x)
OpensEnd task texts (Err e) part =
    (here : Option (List ℕ)) → is_some here ≡ task.reporting.shows.listens
    → (t : Terms) (x : Means)
    → Halted t None (Asks ∷ calls (opening_of task.set.now task.reporting.shows.listens texts here)) part e x x

-- The run was opened right behind questions, and these are the commands that compile the objects; or it ended before
-- the stages behind that, whichever these are.
abbrev pub CommandsEnd : Task → Plan → List Object → Result (Vec Planned) ErrorSeen → List Event → Type 0
CommandsEnd task plan objects (Ok cmds) part =
    (here : Option (List ℕ)) × ((is_some here ≡ task.reporting.shows.listens)
    × (cmds.items ≡ compiles_by here objects plan.compiles.items)
    × ((t : Terms) (x : Means)
    → Went t (Asks ∷ calls (opening_of task.set.now (is_some here) plan.warnings here)) part x x))
CommandsEnd task plan objects (Err e) part =
    (here : Option (List ℕ)) × ((is_some here ≡ task.reporting.shows.listens)
    × ((t : Terms) (x : Means) (refusal : Option ErrorSeen) (more : List Stage) → more ≢ []
    → Halted t refusal (Asks ∷ calls (opening_of task.set.now (is_some here) plan.warnings here) ++ more) part e x x))

-- nothing is refused, the run was opened, and these are the commands that compile the sources; or it ended before the
-- stages behind that
abbrev pub OpenedEnds : Task → Result (Vec Planned) ErrorSeen → Look → List Event → Type 0
OpenedEnds task (Ok cmds) look part =
    (found : Found) × (Hears task.reporting.shows.listens found × (late_refusal task.set.now task.env.now look ≡ None)
    × (cmds.items ≡ compiles_planned task.set.now task.env.now found.here look)
    × ((t : Terms) (x : Means) → Went t (Asks ∷ calls (opening_steps task.set.now task.env.now found look)) part x x))
OpenedEnds task (Err e) look part =
    (found : Found) × (Hears task.reporting.shows.listens found
    × ((t : Terms) (x : Means) (refusal : Option ErrorSeen) (more : List Stage) → more ≢ []
    → Halted t (first_of (error_in task (late_refusal task.set.now task.env.now look)) refusal)
    (asked_then (late_refusal task.set.now task.env.now look)
    (calls (opening_steps task.set.now task.env.now found look) ++ more)) part e x x))

-- the same, with the folder before it
abbrev pub OpeningEnds : Task → Result (Vec Planned) ErrorSeen → Look → List Event → Type 0
OpeningEnds task = RunOpens (build_in task.set.now task.env.now) task.output.now task.reporting.shows.listens

-- the library was written; or the run ended before the questions behind it
abbrev pub LibraryEnds : {T : Type 0} → Task → Result T ErrorSeen → Look → List Event → Course → Type 0
LibraryEnds task (Ok _) look part c =
    (writing : Writing)
    × ((archive_refusal task.set.now task.env.now look ≡ None)
    × Went (task_terms task c)
    (Asks ∷ library_stages task.set.now task.env.now writing look task.output.now) part c.before c.after)
LibraryEnds task (Err e) look part c =
    (writing : Writing)
    × Halted (task_terms task c) (error_in task (archive_refusal task.set.now task.env.now look))
    (asked_then (archive_refusal task.set.now task.env.now look)
    (library_stages task.set.now task.env.now writing look task.output.now
    ++ Asks ∷ [])) part e c.before c.after

-- the lines for Cargo were printed
abbrev pub LinkEnds : {T : Type 0} → Task → Result T ErrorSeen → Look → List Event → Course → Type 0
LinkEnds task result look part c =
    (firsts : Firsts)
    × (Repeats task.set.now firsts
    × PhaseEnds task (link_refusal task.set.now task.env.now look)
    (link_stages task.set.now task.env.now task.reporting.shows.listens look firsts task.output.now) result part c)

-- those of a library of this name and path, and of the variables that such a call reads
abbrev pub cargo_stages : Task → Reads → List ℕ → List ℕ → Firsts → Look → List Stage
cargo_stages task reads name library firsts look =
    printed_stages task.reporting.shows.listens (quiet_warnings task.set.now task.env.now look) firsts
    (links_of task.set.now task.env.now name library look) (rerun_names reads task.set.now task.env.now look)

-- they were printed
abbrev pub LinkedEnds : {T : Type 0} → Task → Reads → List ℕ → List ℕ → Result T ErrorSeen → Look → List Event
    → Course → Type 0
LinkedEnds task reads name library result look part c =
    (firsts : Firsts)
    × (Repeats task.set.now firsts
    × PhaseEnds task (link_refusal task.set.now task.env.now look)
    (cargo_stages task reads name library firsts look) result part c)

-- those of the variables that such a call reads were printed alone
abbrev pub NamesEnd : {T : Type 0} → Task → Reads → Result T ErrorSeen → Look → List Event → Course → Type 0
NamesEnd task reads result look part c =
    (firsts : Firsts)
    × (Repeats task.set.now firsts
    × PhaseEnds task None (name_stages task.set.now task.env.now reads look firsts) result part c)

-- the run was opened, its sources were compiled, and then those lines were printed
abbrev pub CompiledEnds : {T : Type 0} → Task → Reads → Result T ErrorSeen → Look → List Event → Course → Type 0
CompiledEnds task reads result look part c =
    (found : Found) × (firsts : Firsts) × (Hears task.reporting.shows.listens found × Repeats task.set.now firsts
    × Ends (task_terms task c) (late_error task.set.now task.env.now look task.output.now)
    (opened_then task.set.now task.env.now found look
    (beside (compiles_planned task.set.now task.env.now found.here look)
    ++ Asks ∷ name_stages task.set.now task.env.now reads look firsts)) part result c.before c.after)

-- the library was written, and then those lines were printed
abbrev pub WrittenEnds : {T : Type 0} → Task → Reads → Result T ErrorSeen → Look → List Event → Course → Type 0
WrittenEnds task reads result look part c =
    (writing : Writing) × (firsts : Firsts)
    × (Repeats task.set.now firsts
    × PhaseEnds task (archive_refusal task.set.now task.env.now look)
    (told_library task.set.now task.env.now reads writing look firsts task.output.now) result part c)

-- the commands were run, the library was written, and the lines for Cargo were printed
abbrev pub PartsEnd : {T : Type 0} → Task → List Planned → Result T ErrorSeen → Look → List Event → Course → Type 0
PartsEnd task cmds = BehindOpening (build_in task.set.now task.env.now) task.output.now task.reporting.shows cmds

-- a fact of the part and the course of a call, whichever verdicts agree with the answers so far
abbrev pub ByKnown : {X S : Type 0} → List Answer → (X → List Event) → (X → Option ℕ) → (S → Option ℕ) → (S → ℕ)
    → (S → ℕ) → (S → ℕ) → ℕ → ℕ → X → X → S → S → (Look → List Event → Course → Type 0) → Type 0
ByKnown known log patience total faults taken load given left host host' seat seat' fact =
    Holds known (λ look. OnCourse log patience total faults taken load given left host host' seat seat' (fact look))

-- a command was tried, and the answer says whether it was refused; or the error has its cause
abbrev pub TryEnds : Shows → Planned → Result Bool ErrorSeen → List Event → Type 0
TryEnds shows p (Ok refused) part =
    (total patience : Option ℕ) (x : Means) → Went (terms shows total patience) (Tries refused p ∷ []) part x x
TryEnds shows p (Err e) part =
    (total patience : Option ℕ) (refused : Bool) (x : Means)
    → Halted (terms shows total patience) None (Tries refused p ∷ []) part e x x

-- the old library was removed, its list was written, and the current folder was told where it is wanted; or the error
-- has its cause
abbrev pub ReadyEnds : Library → Result (Option (List ℕ)) ErrorSeen → List Event → Type 0
ReadyEnds library (Ok here) part = CallsEnd {T = Unit {0}} (ready_steps library (unwrap_or here [])) part (Ok tt)
ReadyEnds library (Err e) part = (here : List ℕ) → CallsEnd {T = Unit {0}} (ready_steps library here) part (Err e)

-- The commands of a library were begun: the first of their stages were done, which is the command that is tried or
-- none, and those stages are left.
abbrev pub Begins : Shows → Library → List ℕ → List Coded → List Event → Type 0
Begins shows library here left part =
    (is_plain : Bool) × (first : List Stage)
    × ((form_stages library (writing_of is_plain here) ≡ first ++ stages_seen left)
    × ((total patience : Option ℕ) (x : Means) → Went (terms shows total patience) first part x x))

-- or the run ended there, before the questions behind them
abbrev pub BeginStops : Shows → Library → List ℕ → ErrorSeen → List Event → Type 0
BeginStops shows library here e part =
    (is_plain : Bool)
    × ((total patience : Option ℕ) (x : Means)
    → Halted (terms shows total patience) None
    (form_stages library (writing_of is_plain here) ++ Asks ∷ []) part e x x)

-- the library was written, in the first form or in the plain one; or the run ended before the questions behind it
abbrev pub WriteEnds : {T : Type 0} → Shows → Library → Result T ErrorSeen → List Event → Course → Type 0
WriteEnds shows library (Ok _) part c =
    (writing : Writing) × Went (terms shows c.total c.patience) (library_seen library writing) part c.before c.after
WriteEnds shows library (Err e) part c =
    (writing : Writing)
    × Halted (terms shows c.total c.patience) None
    (library_seen library writing ++ Asks ∷ []) part e c.before c.after
