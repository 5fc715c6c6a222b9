-- What each call of a host adds to its log.
use Rattle.std.specs.Prelude.{◌≡◌, ◌<◌, ◌^◌, ◌-◌, ℕ, List, [], ◌∷◌, ◌++◌, Bool, true, false, Option, Some, None, Result, Ok, Err, replicate}
use Rattle.cc_text.specs.declared.memory.NoMemory.{NoMemory as WantsMemory}
use Rattle.cc_host.specs.Command.{CommandSeen}
use Rattle.cc_host.specs.Question.{exists_question}
use Rattle.std.specs.List.{flat_map}
use Rattle.cc_host.specs.declared.event.Role.{Role}
use Rattle.cc_host.specs.declared.event.Pipes.{Pipes}
use Rattle.cc_host.specs.declared.event.OutputKind.{OutputKind}
use Rattle.cc_host.specs.declared.event.OutputKind.TheVariants.{Capture, Forward, Discard}
use Rattle.cc_host.specs.declared.event.Scope.{Scope}
use Rattle.cc_host.specs.declared.event.Removal.{Removal}
use Rattle.cc_host.specs.declared.event.LineKind.{LineKind}
use Rattle.cc_host.specs.declared.event.HostCall.{HostCall}
use Rattle.cc_host.specs.declared.event.HostCall.TheVariants.{Probe as Probing}
use Rattle.cc_host.specs.declared.event.Why.{Why}
use Rattle.cc_host.specs.declared.event.Status.{Status}
use Rattle.cc_host.specs.declared.event.Start.{Start}
use Rattle.cc_host.specs.declared.event.Start.TheVariants.{Child, Missing as NoProgram}
use Rattle.cc_host.specs.declared.event.News.{News}
use Rattle.cc_host.specs.declared.event.Created.{Created}
use Rattle.cc_host.specs.declared.event.Created.TheVariants.{New, Exists as Stands}
use Rattle.cc_host.specs.declared.question.Question.{Question}
use Rattle.cc_host.specs.declared.question.ProbeFiles.{ProbeFiles}
use Rattle.cc_host.specs.declared.question.Verdict.{Verdict}
use Rattle.cc_host.specs.declared.question.Outcome.{Outcome}
use Rattle.cc_host.specs.declared.question.Outcome.TheVariants.{Unanswered, Missing as NoTool, Exists, Done as Finished}
use Rattle.cc_host.specs.declared.event.HostError.{HostError}
use Rattle.cc_host.specs.declared.event.HostError.TheVariants.{Fault as Failed, NoMemory}
use Rattle.cc_host.specs.declared.event.Ran.{Ran}
use Rattle.cc_host.specs.declared.event.Ran.TheVariants.{Missing as Absent, Done}
use Rattle.cc_host.specs.declared.event.Event.{Event}
use Rattle.cc_host.specs.declared.event.Event.TheVariants.{Started, Ended, Heard, Unread, Turn, Ran as RanTo, Missing, Answered, Reused, Unasked, Drawn, Opened, Taken, Made, Removed, Wrote, Copied, Here, Printed, Said, Listed, Fault}
use Rattle.cc_host.specs.declared.event.Message.{Message}

-- a refused call adds its fault, and nothing where memory is refused
abbrev pub refused : HostError → List Event
refused (Failed call why) = Fault call why ∷ []
refused NoMemory = []

-- a command that was to be started, by a caller with so many tokens
abbrev pub started : Role → CommandSeen → Pipes → ℕ → Result Start HostError → List Event
started role cmd pipes held (Ok (Child id)) = Started id role cmd pipes held ∷ []
started role cmd pipes held (Ok NoProgram) = Missing role cmd ∷ []
started role cmd pipes held (Err e) = refused e

abbrev pub heard : ℕ → Option (List ℕ) → List Event
heard id None = []
heard id (Some piece) = Heard id piece ∷ []

abbrev pub unread : ℕ → Bool → List Event
unread id false = []
unread id true = Unread id ∷ []

abbrev pub ended : ℕ → Option Status → List Event
ended id None = []
ended id (Some status) = Ended id status ∷ []

-- what one child did in a turn
abbrev pub reported : News → List Event
reported n = heard n.id n.piece ++ unread n.id n.unread ++ ended n.id n.ended

-- a turn, and what the children did in it
abbrev pub turned : List News → List Event
turned news = Turn 1 ∷ flat_map reported news

-- the turns that an event stands for, one by one
abbrev pub apart : Event → List Event
apart (Turn count) = replicate count (Turn 1)
apart event = event ∷ []

abbrev pub ran : Role → CommandSeen → Pipes → Result Ran HostError → List Event
ran role cmd pipes (Ok Absent) = Missing role cmd ∷ []
ran role cmd pipes (Ok (Done status out err)) = RanTo role cmd pipes status out err ∷ []
ran role cmd pipes (Err e) = refused e

abbrev pub made : {T : Type 0} → Scope → List ℕ → Result T HostError → List Event
made scope path (Ok _) = Made scope path ∷ []
made scope path (Err e) = refused e

abbrev pub wrote : {T : Type 0} → List ℕ → List ℕ → Result T HostError → List Event
wrote path bytes (Ok _) = Wrote path bytes ∷ []
wrote path bytes (Err e) = refused e

abbrev pub copied : {T : Type 0} → List ℕ → List ℕ → Result T HostError → List Event
copied from to (Ok _) = Copied from to ∷ []
copied from to (Err e) = refused e

-- the current folder is the answer
abbrev pub told_here : Result (List ℕ) HostError → List Event
told_here (Ok path) = Here path ∷ []
told_here (Err e) = refused e

abbrev pub removed : List ℕ → Result Removal HostError → List Event
removed path (Ok how) = Removed path how ∷ []
removed path (Err e) = refused e

abbrev pub printed : {T : Type 0} → LineKind → List ℕ → Result T HostError → List Event
printed kind bytes (Ok _) = Printed kind bytes ∷ []
printed kind bytes (Err e) = refused e

abbrev pub said : {T : Type 0} → Message → Result T HostError → List Event
said message (Ok _) = Said message ∷ []
said message (Err e) = refused e

abbrev pub listed : Result (List (List ℕ × List ℕ)) HostError → List Event
listed (Ok vars) = Listed vars ∷ []
listed (Err e) = refused e

-- a probe; one that couldn't be run adds its fault first
abbrev pub probed : Question → ProbeFiles → Why → Result Outcome WantsMemory → List Event
probed q files why (Ok Unanswered) = Fault Probing why ∷ Answered q (Some files) Unanswered ∷ []
probed q files why (Ok NoTool) = Answered q (Some files) NoTool ∷ []
probed q files why (Ok (Exists there)) = Answered q (Some files) (Exists there) ∷ []
probed q files why (Ok (Finished status out err)) = Answered q (Some files) (Finished status out err) ∷ []
probed q files why (Err _) = []

abbrev pub found : List ℕ → Result Bool WantsMemory → List Event
found path (Ok there) = Answered (exists_question path) None (Exists there) ∷ []
found path (Err _) = []

abbrev pub reused : {T : Type 0} → Question → Verdict → Result T WantsMemory → List Event
reused q verdict (Ok _) = Reused q verdict ∷ []
reused q verdict (Err _) = []

abbrev pub unasked : {T : Type 0} → Question → Result T WantsMemory → List Event
unasked q (Ok _) = Unasked q ∷ []
unasked q (Err _) = []

abbrev pub drawn : Result ℕ WantsMemory → List Event
drawn (Ok word) = Drawn word ∷ []
drawn (Err _) = []

abbrev pub created : List ℕ → List ℕ → Result Created HostError → List Event
created path bytes (Ok New) = Opened path bytes ∷ []
created path bytes (Ok Stands) = Taken path ∷ []
created path bytes (Err e) = refused e

-- A count rose. One that stands at its last value counts as risen.
abbrev pub Rose : ℕ → ℕ → Type 0
Rose before now = now < 2 ^ 64 - 1 → before < now

-- a fault is of this call, and comes only where the host has counted one
abbrev pub IsCaused : HostCall → ℕ → ℕ → HostError → Type 0
IsCaused call before now (Failed c why) = (c ≡ call) × Rose before now
IsCaused call before now NoMemory = Unit {0}

-- the standard output is kept
abbrev pub is_captured : OutputKind → Bool
is_captured Capture = true
is_captured Forward = false
is_captured Discard = false

-- what isn't captured or heard isn't answered
abbrev pub IsSilent : Pipes → Ran → Type 0
IsSilent pipes Absent = Unit {0}
IsSilent pipes (Done status out err) = (is_captured pipes.out ≡ false → out ≡ []) × (pipes.hear ≡ false → err ≡ [])
