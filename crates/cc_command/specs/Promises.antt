-- What follows from an answer, each in one sentence.
use Rattle.std.specs.Prelude.{◌≡◌, ◌⊎◌, ◌≤◌, ◌*◌, ◌+◌, ℕ, List, [], ◌∷◌, ◌++◌, length, map, Option, Some, Bool, true, false, if◌then◌else◌, Result, Ok, String}
use Rattle.cc_host.specs.Question.{Look}
use Rattle.cc_host.specs.Part.{is_probing}
use Rattle.cc_host.specs.Part.Step.{Lists}
use Rattle.cc_host.specs.declared.event.Event.{Event}
use Rattle.cc_host.specs.declared.event.Event.TheVariants.{Printed, Fault, Abandoned, Listed, Here, Wrote}
use Rattle.cc_host.specs.declared.event.HostCall.{HostCall}
use Rattle.cc_host.specs.declared.event.HostCall.TheVariants.{Print}
use Rattle.cc_host.specs.declared.event.LineKind.TheVariants.{Fault as FaultLine}
use Rattle.cc_host.specs.declared.event.Why.{Why}
use Rattle.cc_jobs.specs.Seats.{Rose}
use Rattle.cc_plan.specs.Plan.{compiles_of, run_has_one_form}
use Rattle.cc_plan.specs.Valid.{Valid}
use Rattle.cc_run.specs.Part.{turns}
use Rattle.cc_build.specs.Course.{Course}
use Rattle.cc_build.specs.Error.{ErrorSeen}
use Rattle.cc_build.specs.Failed.{Failed, HasFault}
use Rattle.cc_build.specs.Order.{is_archive_event}
use Rattle.cc_build.specs.Promises.{AreFirst, RunBeside, AllStarted, StartsTill}
use Rattle.cc_build.specs.Shows.{shows_of}
use Rattle.cc_build.specs.Stage.{folder_stages, compile_stages}
use Rattle.cc_build.specs.Stage.Stage.{Asks, Calls}
use Rattle.cc_build.specs.Way.{Hears}
use Rattle.cc_build.specs.Went.{Goes, Partly}
use Rattle.cc_build.specs.declared.error.ErrorKind.TheVariants.{TurnsSpent, ToolExecError}
use Rattle.cc_command.specs.Answer.{PrintsLine, IfCompiles, Answers, AnswersRecord, Recorded, database_in, BuiltBy, asked_for, env_in, terms_in, warning, Findings, stages_of, error_line, word_line, told, ended_well, ended_refused, ended_bad, ended_wanting}
use Rattle.cc_command.specs.Read.{Request, Wish}
use Rattle.cc_command.specs.Read.Wish.{Fleets}
use Rattle.cc_command.specs.declared.ended.Ended.{Ended}
use Rattle.cc_command.specs.declared.words.BadWord.{BadWord}

-- Status 0 means that the host listed its variables, and that the library of the words is built with their snapshot.
abbrev pub Headline : {Z : Type 0} → Bool → List (String Z) → Ended → Look → List Event → Course → Type 0
Headline listens words ended look part c =
    IfCompiles (asked_for words) (λ request. ended.status ≡ 0 → BuiltBy listens look request part c)

-- the part ends with this line of kind Fault, or with the fault of its print
pub record EndsWith (line : List ℕ) (part : List Event) : Type 0 where
  pub before : List Event
  pub end : List Event
  pub cut : part ≡ before ++ end
  pub printed : PrintsLine line end

-- With status 1 there is the error and no word, with 2 the word and no error, and the part ends with the line of it.
-- Else there is neither.
abbrev pub PrintsLast : List Event → Ended → Type 0
PrintsLast part ended =
    (told ended ≡ ended_well)
    ⊎ (((e : ErrorSeen) × ((told ended ≡ ended_refused e) × EndsWith (error_line e) part))
    ⊎ (((bad : BadWord) × ((told ended ≡ ended_bad bad) × EndsWith (word_line bad) part))
    ⊎ (told ended ≡ ended_wanting)))

-- nothing, or a line of kind Fault, or the fault of its print
abbrev pub IsLine : List Event → Type 0
IsLine line =
    (line ≡ [])
    ⊎ (((bytes : List ℕ) × (line ≡ Printed FaultLine bytes ∷ []))
    ⊎ ((why : Why) × (line ≡ Fault Print why ∷ [])))

-- a line of kind Fault, or the fault of its print
abbrev pub is_own_line : Event → Bool
is_own_line (Printed FaultLine bytes) = true
is_own_line (Fault Print why) = true
is_own_line _ = false

-- the part without that as its last event
abbrev pub before_line : List Event → List Event
before_line [] = []
before_line (event ∷ []) = if is_own_line event then [] else event ∷ []
before_line (event ∷ next ∷ rest) = event ∷ before_line (next ∷ rest)

-- On every exit the first stages of the request were done, each once and in order, and behind them stands at most a
-- line of kind Fault.
pub record Begun (listens : Bool) (look : Look) (request : Request) (part : List Event) (c : Course) : Type 0 where
  pub run : List Event
  pub line : List Event
  pub cut : part ≡ run ++ line
  pub finds : Findings listens
  pub partly : Partly (terms_in listens request run c) (stages_of listens look request finds run) run c.before c.after
  pub printed : IsLine line

-- before an archive command the variables were listed, the folder was made, and every source's compile command ended
-- with 0
pub record CompiledBefore (listens : Bool) (look : Look) (request : Request) (part before : List Event)
    (c : Course) : Type 0 where
  pub runs : List Event
  pub rest : List Event
  pub cut : before ≡ runs ++ rest
  pub here : Option (List ℕ)
  pub hears : Hears listens (warning here)
  pub compiled : Goes (terms_in listens request part c)
      (Calls Lists
      ∷ (folder_stages request.1.config (env_in request part)
      ++ Asks ∷ compile_stages request.1.config (env_in request part) (warning here) look)) runs

-- No archive command stands in the part unless that stands before it.
abbrev pub ArchivesBehind : Bool → Look → Request → List Event → Course → Type 0
ArchivesBehind listens look request part c =
    (before after : List Event) (event : Event) → part ≡ before ++ event ∷ after → is_archive_event event ≡ true
    → CompiledBefore listens look request part before c

-- children that were abandoned, and then a line of kind Fault, or the fault of its print
abbrev pub EndsAlone : List Event → Type 0
EndsAlone part = (ids : List ℕ) × (line : List Event) × ((part ≡ map Abandoned ids ++ line) × IsLine line)

-- Behind a fault, but one of what a question wants, children are abandoned, and then stands nothing but a line of kind
-- Fault, or the fault of its print.
abbrev pub FaultsLast : List Event → Type 0
FaultsLast part =
    (before after : List Event) (call : HostCall) (why : Why) → is_probing call ≡ false
    → part ≡ before ++ Fault call why ∷ after → EndsAlone after

-- a fact of words that ask for no fleet, of which several members may be refused, each with a line, and whose faults
-- end one member's library alone
abbrev pub UnlessFleet : Result Wish BadWord → Type 0 → Type 0
UnlessFleet (Ok (Fleets ms)) fact = Unit {0}
UnlessFleet _ fact = fact

-- The commands of the part, those that are missing among them, are the first of the planned ones, where the first form
-- of the archive was taken or where it was refused: one attempt for each, and no other command.
abbrev pub IsPrefix : Bool → Look → Request → List Event → Type 0
IsPrefix listens look request part =
    (finds : Findings listens) × AreFirst (stages_of listens look request finds part) part

-- Two sources or more are compiled beside each other, each under a token, and as many at once as there are tokens.
abbrev pub IsBeside : Request → List Event → Course → Type 0
IsBeside request part c = 2 ≤ length request.1.config.files
    → RunBeside c.total request.1.config.stop_on_failure (length request.1.config.files) part

-- Unless the settings stop a run at a failure, a failed child stops no later start: where a command ended badly and the
-- host was sound before the last line, every source's command was started, and none was left alone.
abbrev pub StartsAll : Bool → Look → Request → List Event → Ended → Type 0
StartsAll listens look request part ended = request.1.config.stop_on_failure ≡ false
    → (e : ErrorSeen) → 2 ≤ length request.1.config.files → ended ≡ ended_refused e → e.kind ≡ ToolExecError
    → (HasFault (before_line part) → ⊥) → AllStarted (shows_of request.1.config (env_in request part) listens)
    (compiles_of request.1.config (env_in request part) look) part

-- Where they do, every source's command was started then, or the first of them alone and one of these failed, and none
-- was left alone.
abbrev pub StopsAtFailure : Bool → Look → Request → List Event → Ended → Type 0
StopsAtFailure listens look request part ended = request.1.config.stop_on_failure ≡ true
    → (e : ErrorSeen) → 2 ≤ length request.1.config.files → ended ≡ ended_refused e → e.kind ≡ ToolExecError
    → (HasFault (before_line part) → ⊥) → StartsTill (shows_of request.1.config (env_in request part) listens)
    (compiles_of request.1.config (env_in request part) look) part

-- the turns are spent: as many were made as there are
abbrev pub EndsSpent : ℕ → List Event → Ended → Type 0
EndsSpent most part ended = (e : ErrorSeen) × ((ended ≡ ended_refused e) × (e.kind ≡ TurnsSpent) × (turns part ≡ most))

-- Valid settings, no failed or missing command but the first form of the archive, which an archiver with one form alone
-- hasn't, no fault of the host and none of the pool: it is done, or the turns are spent, or memory was wanted.
abbrev pub IsComplete : Look → Request → List Event → Ended → Course → Type 0
IsComplete look request part ended c = Valid request.1.config (env_in request part) look request.0
    → (Failed (run_has_one_form request.1.config (env_in request part) look) part → ⊥) → (HasFault part → ⊥)
    → (Rose c.before.faults c.after.faults → ⊥)
    → (ended ≡ ended_well) ⊎ (EndsSpent c.before.left part ended ⊎ (ended ≡ ended_wanting))

-- The turns are enough where one caller owns the pool, the host tells its patience, and there are as many times that as
-- twice the sources, the added objects and two.
abbrev pub IsEnough : Look → Request → List Event → Ended → Course → Type 0
IsEnough look request part ended c = (total p : ℕ) → c.total ≡ Some total → c.patience ≡ Some p
    → p * (2 * length request.1.config.files + length request.1.config.objects + 2) ≤ c.before.left
    → EndsSpent c.before.left part ended → ⊥

-- What a compile run promises of its answer, its part and its course.
pub record Promises (listens : Bool) (request : Request) (ended : Ended) (look : Look) (part : List Event)
    (c : Course) : Type 0 where
  -- the whole answer: each status with its cause
  pub answer : Answers listens look request part ended c
  -- status 0: the library was built
  pub built : ended.status ≡ 0 → BuiltBy listens look request part c
  -- on every exit the first stages were done, each once and in order
  pub begun : Begun listens look request part c
  -- no archive command stands in the part unless every source was compiled before it
  pub order : ArchivesBehind listens look request part c
  -- one attempt for each of the first planned commands, and no other
  pub prefix : IsPrefix listens look request part
  -- two sources or more are compiled beside each other, each under a token, and as many at once as there are tokens
  pub beside : IsBeside request part c
  -- unless the settings stop a run at a failure, a failed child stops no later start
  pub failed : StartsAll listens look request part ended
  -- where they do, a source's command was left out only where one that was started failed
  pub stopped : StopsAtFailure listens look request part ended
  -- valid settings, no failed command but the first form of the archive, no fault of the host and none of the pool: it
  -- is done, the turns are spent, or memory was wanted
  pub complete : IsComplete look request part ended c
  -- where one caller owns the pool and the host tells its patience, so many turns are enough
  pub enough : IsEnough look request part ended c

-- the same, by what was answered
abbrev pub IsPromised : Bool → Request → Ended → Look → List Event → Course → Type 0
IsPromised listens request ended look part c = Promises listens request ended look part c

-- The host listed its variables and told its folder; the rest, but for the last event, built the library; and that
-- wrote the database, with an entry for each source.
pub record RecordedBy (listens : Bool) (look : Look) (path : List ℕ) (request : Request) (part : List Event)
    (c : Course) : Type 0 where
  pub vars : List (List ℕ × List ℕ)
  pub here : List ℕ
  pub run : List Event
  pub cut : part ≡ Listed vars ∷ Here here ∷ (run ++ Wrote path (database_in look request vars here) ∷ [])
  pub built : BuiltBy listens look request (Listed vars ∷ run) c

-- What a compile run promises that is recorded in a database.
pub record RecordPromises (listens : Bool) (look : Look) (path : List ℕ) (request : Request) (part : List Event)
    (ended : Ended) (c : Course) : Type 0 where
  -- the whole answer: each status with its cause
  pub answer : AnswersRecord listens look path request part ended c
  -- status 0: the library was built, and the database was written last
  pub recorded : ended.status ≡ 0 → RecordedBy listens look path request part c
  -- the run, without the folder and the file of the database, promises all that one does which isn't recorded
  pub promises : (r : Recorded listens look path request part ended c)
      → Promises listens request r.ran look (Listed r.vars ∷ r.run) c
  -- all of it is complete as a run is that isn't recorded: where nothing keeps it from that it is done, the turns are
  -- spent, or memory was wanted
  pub complete : IsComplete look request part ended c
  -- and as many turns are enough for it
  pub enough : IsEnough look request part ended c

-- the same, by what was answered
abbrev pub IsRecordedSo : Bool → List ℕ → Request → Ended → Look → List Event → Course → Type 0
IsRecordedSo listens path request ended look part c = RecordPromises listens look path request part ended c
