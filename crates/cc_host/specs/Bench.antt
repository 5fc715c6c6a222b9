-- The host in memory: what it is seen as, and what it answers.
use Rattle.std.specs.Prelude.{◌≡◌, ℕ, pos, List, [], ◌∷◌, ◌++◌, drop, map, filter, Bool, true, false, not, if◌then◌else◌, bytes_eq, codes, Option, Some, Result, Ok, Err}
use Rattle.std.specs.List.{All}
use Rattle.cc_text.specs.declared.memory.NoMemory.{NoMemory as WantsMemory}
use Rattle.cc_host.specs.Command.{CommandSeen}
use Rattle.cc_host.specs.declared.event.Role.{Role}
use Rattle.cc_host.specs.declared.event.Pipes.{Pipes}
use Rattle.cc_host.specs.declared.event.Status.TheVariants.{Code}
use Rattle.cc_host.specs.declared.event.HostCall.{HostCall}
use Rattle.cc_host.specs.declared.event.HostCall.TheVariants.{Probe, Start as Starts, Turn as Turns}
use Rattle.cc_host.specs.declared.event.Why.TheVariants.{Other}
use Rattle.cc_host.specs.declared.event.HostError.{HostError}
use Rattle.cc_host.specs.declared.event.HostError.TheVariants.{Fault as Failed, NoMemory}
use Rattle.cc_host.specs.declared.event.Ran.{Ran}
use Rattle.cc_host.specs.declared.event.Ran.TheVariants.{Missing, Done}
use Rattle.cc_host.specs.declared.event.Created.{Created}
use Rattle.cc_host.specs.declared.event.Created.TheVariants.{New, Exists as Stands}
use Rattle.cc_host.specs.declared.event.Removal.{Removal}
use Rattle.cc_host.specs.declared.event.Removal.TheVariants.{Gone, Absent}
use Rattle.cc_host.specs.declared.event.Start.{Start}
use Rattle.cc_host.specs.declared.event.Start.TheVariants.{Child, Missing as NoProgram}
use Rattle.cc_host.specs.declared.event.News.{News}
use Rattle.cc_host.specs.declared.event.Event.{Event}
use Rattle.cc_host.specs.declared.event.Event.TheVariants.{Answered, Fault}
use Rattle.cc_host.specs.declared.question.Ask.{Ask}
use Rattle.cc_host.specs.declared.question.ProbeFiles.{ProbeFiles}
use Rattle.cc_host.specs.declared.question.Question.{Question}
use Rattle.cc_host.specs.declared.question.Outcome.{Outcome}
use Rattle.cc_host.specs.declared.question.Outcome.TheVariants.{Unanswered}
use Rattle.cc_host.specs.declared.script.Script.{Script}
use Rattle.cc_host.specs.declared.script.Scripted.{Scripted}
use Rattle.cc_host.specs.declared.calls.Failure.{Failure}
use Rattle.cc_host.specs.declared.calls.Counts.{Counts}
use Rattle.cc_host.specs.declared.given.Given.{Given}
use Rattle.cc_host.specs.declared.child.RunningChild.{RunningChild}
use Rattle.cc_host.specs.Event.{is_captured}
use Rattle.cc_host.specs.Calls.{is_due, no_calls, count_of, counted, plus_one}
use Rattle.cc_host.specs.Script.{has_word, script_for, script_at, status_of, pieces_of, out_of, err_of, met_after, was_met, patience_of}
use Rattle.cc_host.specs.Given.{outcome_of}
use Rattle.cc_host.specs.Call.{Keeps}
use Rattle.cc_host.specs.ChildLog.{news_in, left_in, without_child, begun}

-- what a host in memory is seen as: its log, how often it failed, the children that run, how often each call was made, and what it
-- was given for commands, of calls, of variables, of questions, of files and of words to draw, and whether it listens
pub record BenchSeen : Type 0 where
  pub log : List Event
  pub faults : ℕ
  pub children : List RunningChild
  pub made : Counts
  pub scripts : List Scripted
  pub missing : List (List ℕ)
  pub failures : List Failure
  pub vars : List (List ℕ × List ℕ)
  pub given : List Given
  pub files : List (List ℕ)
  pub words : List ℕ
  pub listens : Bool

-- a host on which nothing was set, before its first call
abbrev pub fresh : BenchSeen
fresh = record { log = []; faults = 0; children = []; made = no_calls; scripts = []; missing = []; failures = []; vars = []; given = []; files = []; words = []; listens = false }

-- the count of faults didn't fall, and the patience is the same
abbrev pub KeepsBench : BenchSeen → BenchSeen → Type 0
KeepsBench old new = Keeps (λ h. h.faults) (λ h. patience_of h.scripts) old new

-- a host that was given a script, a missing program, an answer, a call that is to fail, a file
abbrev pub with_script : Role → List ℕ → Script → BenchSeen → BenchSeen
with_script role word script host =
    let met = was_met script.after host.log in
    record host { scripts = host.scripts ++ record { role = role; word = word; script = script; met = met } ∷ [] }

abbrev pub with_missing : List ℕ → BenchSeen → BenchSeen
with_missing program host = record host { missing = host.missing ++ program ∷ [] }

abbrev pub with_answer : Ask → List ℕ → Outcome → BenchSeen → BenchSeen
with_answer ask program outcome host =
    record host { given = host.given ++ record { ask = ask; program = program; outcome = outcome } ∷ [] }

abbrev pub with_failure : HostCall → ℕ → BenchSeen → BenchSeen
with_failure call nth host =
    record host { failures = host.failures ++ record { call = call; nth = nth } ∷ [] }

abbrev pub with_file : List ℕ → BenchSeen → BenchSeen
with_file path host = record host { files = host.files ++ path ∷ [] }

-- a host that noted these events
abbrev pub noted : List Event → BenchSeen → BenchSeen
noted events host = record host { log = host.log ++ events }

-- a host that counted a call, and noted these events
abbrev pub called : HostCall → List Event → BenchSeen → BenchSeen
called call events host =
    record host { log = host.log ++ events; made = counted call host.made }

-- a host that answered a question
abbrev pub asked : Question → ProbeFiles → Outcome → BenchSeen → BenchSeen
asked q files outcome host = called Probe (Answered q (Some files) outcome ∷ []) host

-- a host on which a probe failed
abbrev pub failed_probe : Question → ProbeFiles → BenchSeen → BenchSeen
failed_probe q files host =
    let events = Fault Probe Other ∷ Answered q (Some files) Unanswered ∷ [] in
    record (called Probe events host) { faults = plus_one host.faults }

-- the path has a file
abbrev pub has_file : List ℕ → BenchSeen → Bool
has_file path host = has_word path host.files

abbrev pub without_file : List ℕ → List (List ℕ) → List (List ℕ)
without_file path = filter (λ f. not (bytes_eq f path))

-- how a command ends whose program is there
abbrev pub ends_as : BenchSeen → Role → CommandSeen → Pipes → Ran
ends_as host role cmd pipes = let script = script_for host.scripts role cmd in
    Done (status_of script) (out_of (is_captured pipes.out) (pieces_of script)) (err_of (is_captured pipes.out) pipes.hear (pieces_of script))

-- the answer to a command that is not to fail
abbrev pub answer_to : BenchSeen → Role → CommandSeen → Pipes → Ran
answer_to host role cmd pipes = if has_word cmd.program host.missing then Missing else ends_as host role cmd pipes

-- the current folder
abbrev pub current_folder : List ℕ
current_folder = codes "/w"

-- the answers to a probe file that is to be made and to a file that is to be removed
abbrev pub created_at : Bool → Created
created_at there = if there then Stands else New

abbrev pub removed_at : Bool → Removal
removed_at there = if there then Gone else Absent

abbrev pub creation_of : List ℕ → BenchSeen → Created
creation_of path host = created_at (has_file path host)

abbrev pub removal_of : List ℕ → BenchSeen → Removal
removal_of path host = removed_at (has_file path host)

-- the files after a probe file was to be made
abbrev pub files_with : List ℕ → BenchSeen → List (List ℕ)
files_with path host = if has_file path host then host.files else host.files ++ path ∷ []

abbrev pub with_probe : List ℕ → BenchSeen → BenchSeen
with_probe path host = record host { files = files_with path host }

-- a host without the files of a path
abbrev pub without_path : List ℕ → BenchSeen → BenchSeen
without_path path host = record host { files = without_file path host.files }

-- a host that left a child alone
abbrev pub left_alone : ℕ → BenchSeen → BenchSeen
left_alone id host = record host { children = without_child id host.children }

-- a host that drew a word
abbrev pub drawn_from : BenchSeen → BenchSeen
drawn_from host = record host { words = drop 1 host.words }

-- the word that is drawn next
abbrev pub next_word : List ℕ → ℕ
next_word [] = 0
next_word (word ∷ words) = word

abbrev pub is_fault : HostError → Bool
is_fault (Failed _ _) = true
is_fault NoMemory = false

-- the next call of the kind is one that is to fail
abbrev pub fails_next : HostCall → BenchSeen → Bool
fails_next call host = is_due call (count_of call host.made) host.failures

-- A call failed. Where memory was refused the host is as before.
abbrev pub IsFailure : HostCall → BenchSeen → BenchSeen → HostError → Type 0
IsFailure call old new (Failed _ why) =
    (why ≡ Other)
    × (new ≡ record old { log = new.log; faults = plus_one old.faults; made = counted call old.made })
IsFailure call old new NoMemory = new ≡ old

-- A call has this answer, and leaves the host so but for its log and the count of the call; or it fails where it is to fail.
abbrev pub Answers : {T : Type 0} → HostCall → T → BenchSeen → BenchSeen → BenchSeen → Result T HostError → Type 0
Answers call answer after old new (Ok x) =
    (fails_next call old ≡ false) × (x ≡ answer)
    × (new ≡ record after { log = new.log; made = counted call old.made })
Answers call answer after old new (Err e) = (is_fault e ≡ true → fails_next call old ≡ true) × IsFailure call old new e

-- A call that is not counted has this answer. Where memory was refused the host is as before.
abbrev pub Replies : {T : Type 0} → T → BenchSeen → BenchSeen → BenchSeen → Result T WantsMemory → Type 0
Replies answer after old new (Ok x) = (x ≡ answer) × (new ≡ record after { log = new.log })
Replies answer after old new (Err e) = new ≡ old

-- what a probe comes to
abbrev pub probe_outcome : BenchSeen → Question → Outcome
probe_outcome host q = if fails_next Probe host then Unanswered else outcome_of host.given q

-- the host after a probe, but for its log
abbrev pub probe_after : BenchSeen → BenchSeen
probe_after host = record host { made = counted Probe host.made; faults = if fails_next Probe host then plus_one host.faults else host.faults }

-- the host after a child was started that has the script at this place, but for its log
abbrev pub start_after : BenchSeen → CommandSeen → ℕ → Option ℕ → BenchSeen
start_after host cmd id place = record host { scripts = map (met_after cmd) host.scripts; children = host.children ++ begun id place ∷ [] }

-- a child was begun with the script that counts for its command
abbrev pub Begins : CommandSeen → Role → ℕ → BenchSeen → BenchSeen → Type 0
Begins cmd role id old new =
    (place : Option ℕ) × (script_at old.scripts place ≡ script_for old.scripts role cmd)
    × (new ≡ record (start_after old cmd id place) { log = new.log; made = counted Starts old.made })

-- A start finds no program, or begins a child with the script that counts for its command; or it fails where it is to fail.
abbrev pub IsStart : Role → CommandSeen → BenchSeen → BenchSeen → Result Start HostError → Type 0
IsStart role cmd old new (Ok NoProgram) =
    (fails_next Starts old ≡ false) × (has_word cmd.program old.missing ≡ true)
    × (new ≡ record old { log = new.log; made = counted Starts old.made })
IsStart role cmd old new (Ok (Child id)) =
    (fails_next Starts old ≡ false) × (has_word cmd.program old.missing ≡ false)
    × Begins cmd role id old new
IsStart role cmd old new (Err e) = (is_fault e ≡ true → fails_next Starts old ≡ true) × IsFailure Starts old new e

-- A turn reports what each child does by its script; or it fails where it is to fail.
abbrev pub IsTurn : BenchSeen → BenchSeen → Result (List News) HostError → Type 0
IsTurn old new (Ok news) =
    (fails_next Turns old ≡ false) × (news ≡ news_in old.scripts old.children)
    × (new ≡ record old { log = new.log; made = counted Turns old.made; children = left_in old.scripts old.children })
IsTurn old new (Err e) = (is_fault e ≡ true → fails_next Turns old ≡ true) × IsFailure Turns old new e

-- a host on which nothing was set for commands and for calls
abbrev pub IsPlain : BenchSeen → Type 0
IsPlain host = (host.scripts ≡ []) × (host.missing ≡ []) × (host.failures ≡ [])

-- a call has this answer, or memory was refused
abbrev pub Gives : {T : Type 0} → T → Result T HostError → Type 0
Gives answer (Ok x) = x ≡ answer
Gives answer (Err (Failed _ _)) = ⊥
Gives answer (Err NoMemory) = Unit {0}

-- what a command ends with on such a host
abbrev pub plain_end : Ran
plain_end = Done (Code (pos 0)) [] []

-- a child runs on such a host
abbrev pub IsPlainStart : Result Start HostError → Type 0
IsPlainStart (Ok NoProgram) = ⊥
IsPlainStart (Ok (Child id)) = Unit {0}
IsPlainStart (Err e) = is_fault e ≡ false

-- each child that does something on such a host ends with 0
abbrev pub IsPlainTurn : Result (List News) HostError → Type 0
IsPlainTurn (Ok news) = All (λ n. n.ended ≡ Some (Code (pos 0))) news
IsPlainTurn (Err e) = is_fault e ≡ false
