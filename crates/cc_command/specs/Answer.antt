-- What the program answers to its words, and what it did for them.
use Rattle.std.specs.Prelude.{◌≡◌, ◌≢◌, ◌⊎◌, ℕ, List, [], ◌∷◌, ◌++◌, map, Bool, true, false, Option, Some, None, Result, Ok, Err, String, string_bytes, codes}
use Rattle.std.specs.Fmt.{decimal}
use Rattle.cc_db.specs.Database.{database}
use Rattle.cc_env.specs.Env.{EnvSeen}
use Rattle.cc_host.specs.Question.{Look}
use Rattle.cc_host.specs.Part.{listings}
use Rattle.cc_host.specs.Part.Step.{Lists}
use Rattle.cc_host.specs.declared.event.Event.{Event}
use Rattle.cc_host.specs.declared.event.Event.TheVariants.{Printed, Fault, Listed, Here, Wrote}
use Rattle.cc_host.specs.declared.event.HostCall.TheVariants.{Print, CurrentDir, Write}
use Rattle.cc_host.specs.declared.event.LineKind.TheVariants.{Fault as FaultLine}
use Rattle.cc_host.specs.declared.event.Why.{Why}
use Rattle.cc_flags.specs.declared.settings.BuildConfig.{BuildConfig}
use Rattle.cc_build.specs.Built.{Built}
use Rattle.cc_build.specs.Captured.{with_vars, CaptureEnds}
use Rattle.cc_build.specs.Course.{Course}
use Rattle.cc_build.specs.Error.{ErrorSeen}
use Rattle.cc_build.specs.Shows.{shows_of}
use Rattle.cc_build.specs.Stage.{Stage, planned_stages}
use Rattle.cc_build.specs.Stage.Stage.{Calls}
use Rattle.cc_build.specs.Way.{Way, Found, Hears, all_firsts, Writing}
use Rattle.cc_build.specs.Went.{Terms, Means, terms, Went, Halted}
use Rattle.cc_build.specs.declared.error.ErrorKind.{ErrorKind}
use Rattle.cc_build.specs.declared.error.ErrorKind.TheVariants.{NoMemory}
use Rattle.cc_build.specs.Refusal.{refusal_error}
use Rattle.cc_command.specs.Database.{entries_of, Faults}
use Rattle.cc_command.specs.FleetWords.{asked}
use Rattle.cc_command.specs.Read.{Request, Wish}
use Rattle.cc_command.specs.Read.Wish.{Compiles}
use Rattle.cc_command.specs.declared.words.BadWord.{BadWord}
use Rattle.cc_command.specs.declared.words.WordCause.{WordCause}
use Rattle.cc_command.specs.declared.words.WordCause.TheVariants.{NoCommand, UnknownCommand, NoName, NoValue, UnknownKey, BadValue}
use Rattle.cc_command.specs.declared.ended.Ended.{Ended}

abbrev pub cause_text : WordCause → List ℕ
cause_text NoCommand = codes "no command"
cause_text UnknownCommand = codes "unknown command"
cause_text NoName = codes "no name"
cause_text NoValue = codes "no value"
cause_text UnknownKey = codes "unknown key"
cause_text BadValue = codes "bad value"

-- the line for a bad word
abbrev pub word_line : BadWord → List ℕ
word_line bad = codes "word " ++ decimal bad.place ++ codes ": " ++ cause_text bad.cause ++ 10 ∷ []

-- the line for an error
abbrev pub error_line : ErrorSeen → List ℕ
error_line e = codes "error occurred in cc-rs: " ++ e.message ++ 10 ∷ []

-- the line was printed, or its print faulted
abbrev pub PrintsLine : List ℕ → List Event → Type 0
PrintsLine line part = (part ≡ Printed FaultLine line ∷ []) ⊎ ((why : Why) × (part ≡ Fault Print why ∷ []))

-- an end with this status, which tells nothing else
abbrev pub ended_with : ℕ → Ended
ended_with status = record { status = status; error = None; word = None; bench = None; graph = None; fleet = None }

-- status 0: neither an error nor a word
abbrev pub ended_well : Ended
ended_well = ended_with 0

-- status 1: the error
abbrev pub ended_refused : ErrorSeen → Ended
ended_refused e = record (ended_with 1) { error = Some e }

-- status 2: the bad word
abbrev pub ended_bad : BadWord → Ended
ended_bad bad = record (ended_with 2) { word = Some bad }

-- status 3: neither
abbrev pub ended_wanting : Ended
ended_wanting = ended_with 3

-- an end without the host of a large run, if it has one
abbrev pub told : Ended → Ended
told ended = record ended { bench = None }

-- want of memory tells no more
abbrev pub is_wanting : ErrorKind → Bool
is_wanting NoMemory = true
is_wanting _ = false

-- the line of an error was printed last, or memory for it was wanted
abbrev pub AnswersError : ErrorSeen → List Event → Ended → Type 0
AnswersError e part ended =
    ((ended ≡ ended_refused e) × (is_wanting e.kind ≡ false) × PrintsLine (error_line e) part)
    ⊎ ((ended ≡ ended_wanting) × (part ≡ []))

-- the terms of a compile run with these settings, on a host that listens or not
abbrev pub terms_of : Bool → BuildConfig → EnvSeen → Course → Terms
terms_of listens set env c = terms (shows_of set env listens) c.total c.patience

-- a run that was refused, with some error
abbrev pub IsHalted : Terms → Option ErrorSeen → List Stage → List Event → Means → Means → Type 0
IsHalted t refusal stages part x y = (e : ErrorSeen) × Halted t refusal stages part e x y

abbrev pub first_listing : List (List (List ℕ × List ℕ)) → List (List ℕ × List ℕ)
first_listing [] = []
first_listing (vars ∷ more) = vars

-- the variables that the host listed first in a part, or none
abbrev pub heard : List Event → List (List ℕ × List ℕ)
heard part = first_listing (listings part)

-- the environment of a request with the snapshot of the variables that were listed
abbrev pub env_in : Request → List Event → EnvSeen
env_in request part = with_vars request.1.env (heard part)

-- The settings of words repeat their lines: a run warns of flags for the linker whenever it leaves some off.
abbrev pub warning : Option (List ℕ) → Found
warning here = record { warns_of_link = true; here = here }

-- it prints all lines for Cargo, too
abbrev pub repeating : Option (List ℕ) → Writing → Way
repeating here writing = record { found = warning here; writing = writing; firsts = all_firsts }

-- What is left to be found out as it goes: the current folder, which a host that listens is asked for, and what is
-- found out as the library is written.
pub record Findings (listens : Bool) : Type 0 where
  pub here : Option (List ℕ)
  pub hears : Hears listens (warning here)
  pub writing : Writing

-- The stages of a request: the host lists its variables, then come those of the compile run.
abbrev pub stages_of : (listens : Bool) → Look → Request → Findings listens → List Event → List Stage
stages_of listens look request finds part =
    Calls Lists
    ∷ planned_stages request.1.config (env_in request part) (repeating finds.here finds.writing) look request.0

-- the terms of a request's run
abbrev pub terms_in : Bool → Request → List Event → Course → Terms
terms_in listens request part c = terms_of listens request.1.config (env_in request part) c

-- the error of a request's settings
abbrev pub error_of : Look → Request → List Event → Option ErrorSeen
error_of look request part = refusal_error request.1.config (env_in request part) look request.0

-- The host listed its variables, and then the library was built with their snapshot.
pub record BuiltBy (listens : Bool) (look : Look) (request : Request) (part : List Event) (c : Course) : Type 0 where
  pub vars : List (List ℕ × List ℕ)
  pub run : List Event
  pub cut : part ≡ Listed vars ∷ run
  pub built : Built (terms_of listens request.1.config (with_vars request.1.env vars) c) request.1.config
      (with_vars request.1.env vars) look request.0 run

-- a request that was refused: its first stages were done, and the line of its error was printed last
pub record Refused (listens : Bool) (look : Look) (request : Request) (part : List Event) (ended : Ended)
    (c : Course) : Type 0 where
  pub error : ErrorSeen
  pub run : List Event
  pub line : List Event
  pub cut : part ≡ run ++ line
  pub printed : PrintsLine (error_line error) line
  pub finds : Findings listens
  pub refused : Halted (terms_in listens request run c) (error_of look request run)
      (stages_of listens look request finds run) run error c.before c.after
  pub known : is_wanting error.kind ≡ false
  pub is : ended ≡ ended_refused error

-- a request: it is built by its stages, or refused, or refused with an error that no memory could tell
abbrev pub Answers : Bool → Look → Request → List Event → Ended → Course → Type 0
Answers listens look request part ended c =
    ((ended ≡ ended_well)
    × (BuiltBy listens look request part c
    × ((finds : Findings listens)
    × Went (terms_in listens request part c)
    (stages_of listens look request finds part) part c.before c.after)))
    ⊎ (Refused listens look request part ended c
    ⊎ ((ended ≡ ended_wanting)
    × ((finds : Findings listens)
    × IsHalted (terms_in listens request part c) (error_of look request part)
    (stages_of listens look request finds part) part c.before c.after)))

-- the host listed its variables, and couldn't tell its folder, or memory was wanted
abbrev pub Untold : List Event → ErrorSeen → Type 0
Untold part e =
    (vars : List (List ℕ × List ℕ)) × (rest : List Event) × ((part ≡ Listed vars ∷ rest) × Faults CurrentDir [] rest e)

-- The variables weren't listed, or memory for them was wanted. The line of the error was printed last.
pub record Unlisted (part : List Event) (ended : Ended) : Type 0 where
  pub error : ErrorSeen
  pub front : List Event
  pub line : List Event
  pub cut : part ≡ front ++ line
  pub cause : CaptureEnds front (Err error)
  pub says : AnswersError error line ended

-- A run that is to be recorded wasn't begun: its variables weren't listed, or its folder wasn't told. The line of the
-- error was printed last.
pub record Unbegun (part : List Event) (ended : Ended) (c : Course) : Type 0 where
  pub error : ErrorSeen
  pub front : List Event
  pub line : List Event
  pub cut : part ≡ front ++ line
  pub cause : CaptureEnds front (Err error) ⊎ Untold front error
  pub says : AnswersError error line ended
  pub idle : c.after ≡ c.before

-- the file of these bytes was written last
abbrev pub WritesLast : List ℕ → List ℕ → List Event → Ended → Type 0
WritesLast path bytes rest ended = (ended ≡ ended_well) × (rest ≡ Wrote path bytes ∷ [])

-- the file couldn't be written, or memory was wanted, and the line of the error was printed last
pub record Unwritten (path : List ℕ) (rest : List Event) (ended : Ended) : Type 0 where
  pub error : ErrorSeen
  pub front : List Event
  pub line : List Event
  pub cut : rest ≡ front ++ line
  pub cause : Faults Write path front error
  pub says : AnswersError error line ended

-- Behind a run that was done the file of these bytes is written, or couldn't be. Behind a refused one stands nothing.
abbrev pub Behind : List ℕ → List ℕ → Ended → List Event → Ended → Type 0
Behind path bytes ran rest ended =
    ((ran ≡ ended_well) × (WritesLast path bytes rest ended ⊎ Unwritten path rest ended))
    ⊎ ((ended ≡ ran) × (rest ≡ []) × (ended ≢ ended_well))

-- the database of the sources of a request, with the variables that were listed and the folder that was told
abbrev pub database_in : Look → Request → List (List ℕ × List ℕ) → List ℕ → List ℕ
database_in look request vars here = database (entries_of request.1.config (with_vars request.1.env vars) look here)

-- A run that is recorded: the host listed its variables and told its folder. The rest answers the request as a run does
-- that isn't recorded, and then comes the file of the database.
pub record Recorded (listens : Bool) (look : Look) (path : List ℕ) (request : Request) (part : List Event)
    (ended : Ended) (c : Course) : Type 0 where
  pub vars : List (List ℕ × List ℕ)
  pub here : List ℕ
  pub run : List Event
  pub rest : List Event
  pub cut : part ≡ Listed vars ∷ Here here ∷ (run ++ rest)
  pub ran : Ended
  pub answer : Answers listens look request (Listed vars ∷ run) ran c
  pub behind : Behind path (database_in look request vars here) ran rest ended

-- a request that is to be recorded: its run wasn't begun, or is recorded
abbrev pub AnswersRecord : Bool → Look → List ℕ → Request → List Event → Ended → Course → Type 0
AnswersRecord listens look path request part ended c =
    Unbegun part ended c ⊎ Recorded listens look path request part ended c

-- bad words: their line alone was printed, or memory for it was wanted
abbrev pub AnswersBad : BadWord → List Event → Ended → Type 0
AnswersBad bad part ended =
    ((ended ≡ ended_bad bad) × PrintsLine (word_line bad) part) ⊎ ((ended ≡ ended_wanting) × (part ≡ []))

-- a fact of a compile run, where the words wish one
abbrev pub IfCompiles : Result Wish BadWord → (Request → Type 0) → Type 0
IfCompiles (Ok (Compiles request)) fact = fact request
IfCompiles _ fact = Unit {0}

-- what the words ask for, or the first bad one
abbrev pub asked_for : {Z : Type 0} → List (String Z) → Result Wish BadWord
asked_for words = asked (map string_bytes words)

-- this answers a compile run
abbrev pub IsAnswer : Bool → Request → Ended → Look → List Event → Course → Type 0
IsAnswer listens request ended look part c = Answers listens look request part ended c

-- this answers a compile run that is recorded
abbrev pub IsRecorded : Bool → List ℕ → Request → Ended → Look → List Event → Course → Type 0
IsRecorded listens path request ended look part c = AnswersRecord listens look path request part ended c
