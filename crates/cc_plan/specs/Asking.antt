-- Calls that ask, and calls that ask and then print.
use Rattle.std.specs.Prelude.{◌≡◌, ◌⊎◌, ◌++◌, ℕ, Bool, true, false, List, [], ◌∷◌, Option, Some, None, Result, Ok, Err, IfOk, IfErr, OnOk}
use Rattle.std.specs.List.{list_any}
use Rattle.cc_env.specs.Env.{EnvSeen}
use Rattle.cc_host.specs.Part.{Step, IsPartly, IsWhole, since, stops}
use Rattle.cc_host.specs.Question.{Look, Answer, Settles, Holds}
use Rattle.cc_host.specs.declared.event.Event.{Event}
use Rattle.cc_host.specs.declared.event.Event.TheVariants.{Started, Ended, Abandoned, Heard, Unread, Turn, Fault}
use Rattle.cc_host.specs.declared.event.HostCall.{HostCall}
use Rattle.cc_host.specs.declared.event.HostCall.TheVariants.{Print, Say}
use Rattle.cc_host.specs.declared.event.Why.{Why}
use Rattle.cc_host.specs.declared.host.World.{Ghosts}
use Rattle.cc_host.specs.declared.question.Outcome.{Outcome}
use Rattle.cc_host.specs.declared.question.Question.{Question}
use Rattle.cc_tool.specs.Asked.{question_events}
use Rattle.cc_tool.specs.Asks.{Asks}
use Rattle.cc_tool.specs.Own.{AnswersAmong}
use Rattle.cc_tool.specs.Tool.{ToolSeen}
use Rattle.cc_plan.specs.OnlyAsks.{OnlyAsks}
use Rattle.cc_plan.specs.Questions.{PlanAsks, AssemblerAsks, CompileAsks, ArchiveToolAsks, ArchiverAsks, RanlibAsks, NameAsks, LinkAsks, SupportAsks}
use Rattle.cc_flags.specs.declared.archive_names.ArchiveTool.{ArchiveTool}
use Rattle.cc_plan.specs.declared.error.PlanError.{PlanError}
use Rattle.cc_plan.specs.declared.error.PlanError.TheVariants.{Host, NoMemory}
use Rattle.cc_flags.specs.declared.settings.BuildConfig.{BuildConfig}
use Rattle.cc_plan.specs.declared.sight.Sight.{Sight}
use Rattle.cc_flags.specs.declared.variables.Reads.{Reads}

-- a call asks what the plan of the commands that compile wants
abbrev pub AsksToCompile : {W H : Type 0} → {ghosts : Ghosts W} → Bool → (Question → Outcome) → (H → List Event)
    → (H → Option ℕ) → BuildConfig → EnvSeen → Sight W H ghosts → Sight W H ghosts → Type 0
AsksToCompile steady world log patience set env old new =
    OnlyAsks steady world log patience (CompileAsks set env) old new

-- a call asks what the plan of a tool wants
abbrev pub AsksToPlan : {W H : Type 0} → {ghosts : Ghosts W} → Bool → (Question → Outcome) → (H → List Event)
    → (H → Option ℕ) → BuildConfig → EnvSeen → Sight W H ghosts → Sight W H ghosts → Type 0
AsksToPlan steady world log patience set env old new = OnlyAsks steady world log patience (PlanAsks set env) old new

-- a call asks what the plan of an assembler for this tool wants
abbrev pub AsksForAssembler : {W H : Type 0} → {ghosts : Ghosts W} → Bool → (Question → Outcome) → (H → List Event)
    → (H → Option ℕ) → BuildConfig → EnvSeen → ToolSeen → Sight W H ghosts → Sight W H ghosts → Type 0
AsksForAssembler steady world log patience set env tool old new =
    OnlyAsks steady world log patience (AssemblerAsks set env tool) old new

-- a call asks what the plan of a tool of archives wants
abbrev pub AsksForEither : {W H : Type 0} → {ghosts : Ghosts W} → Bool → (Question → Outcome) → (H → List Event)
    → (H → Option ℕ) → ArchiveTool → BuildConfig → EnvSeen → Sight W H ghosts → Sight W H ghosts → Type 0
AsksForEither steady world log patience tool set env old new =
    OnlyAsks steady world log patience (ArchiveToolAsks tool set env) old new

-- that of the archiver
abbrev pub AsksForArchiver : {W H : Type 0} → {ghosts : Ghosts W} → Bool → (Question → Outcome) → (H → List Event)
    → (H → Option ℕ) → BuildConfig → EnvSeen → Sight W H ghosts → Sight W H ghosts → Type 0
AsksForArchiver steady world log patience set env old new =
    OnlyAsks steady world log patience (ArchiverAsks set env) old new

-- that of the tool that writes an archive's index
abbrev pub AsksForRanlib : {W H : Type 0} → {ghosts : Ghosts W} → Bool → (Question → Outcome) → (H → List Event)
    → (H → Option ℕ) → BuildConfig → EnvSeen → Sight W H ghosts → Sight W H ghosts → Type 0
AsksForRanlib steady world log patience set env old new =
    OnlyAsks steady world log patience (RanlibAsks set env) old new

-- a call asks what its names of variables are planned by
abbrev pub AsksForNames : {W H : Type 0} → {ghosts : Ghosts W} → Bool → (Question → Outcome) → (H → List Event)
    → (H → Option ℕ) → Reads → BuildConfig → EnvSeen → Sight W H ghosts → Sight W H ghosts → Type 0
AsksForNames steady world log patience reads set env old new =
    OnlyAsks steady world log patience (NameAsks reads set env) old new

-- a call asks what the plan of link lines wants
abbrev pub AsksForLinks : {W H : Type 0} → {ghosts : Ghosts W} → Bool → (Question → Outcome) → (H → List Event)
    → (H → Option ℕ) → BuildConfig → EnvSeen → Sight W H ghosts → Sight W H ghosts → Type 0
AsksForLinks steady world log patience set env old new = OnlyAsks steady world log patience (LinkAsks set env) old new

-- a call asks what the plan of a verdict on a flag wants
abbrev pub AsksOnFlag : {W H : Type 0} → {ghosts : Ghosts W} → Bool → (Question → Outcome) → (H → List Event)
    → (H → Option ℕ) → BuildConfig → EnvSeen → List ℕ → Sight W H ghosts → Sight W H ghosts → Type 0
AsksOnFlag steady world log patience set env flag old new =
    OnlyAsks steady world log patience (SupportAsks set env flag) old new

-- on Ok the answers settle the value, by a function of all verdicts
abbrev pub SettledIn : {W H X E : Type 0} → {ghosts : Ghosts W} → Sight W H ghosts → (Look → X) → Result X E → Type 0
SettledIn sight value result = IfOk result (Settles sight.answers.now value)

-- on Ok the answers settle that nothing is refused
abbrev pub AllowedIn : {W H X : Type 0} → {ghosts : Ghosts W} → Sight W H ghosts → (Look → Option PlanError)
    → Result X PlanError → Type 0
AllowedIn sight refusal result = OnOk result (Settles sight.answers.now refusal None)

-- an error is want of memory, or the refusal that the answers settle
abbrev pub RefusedIn : {W H X : Type 0} → {ghosts : Ghosts W} → Sight W H ghosts → (Look → Option PlanError)
    → Result X PlanError → Type 0
RefusedIn sight refusal result = IfErr result (λ e. (e ≡ NoMemory) ⊎ Settles sight.answers.now refusal (Some e))

-- the calls by which a host is given a warning: one prints, one says
abbrev pub IsNotice : HostCall → Type 0
IsNotice call = (call ≡ Print) ⊎ (call ≡ Say)

-- a fault of the call that prints, or of the one that says
abbrev pub IsPrintFault : PlanError → Type 0
IsPrintFault e = (call : HostCall) × (why : Why) × (IsNotice call × (e ≡ Host call why))

-- an error is want of memory, or such a fault
abbrev pub RefusedByPrint : {X : Type 0} → Result X PlanError → Type 0
RefusedByPrint result = IfErr result (λ e. (e ≡ NoMemory) ⊎ IsPrintFault e)

-- an error is want of memory, such a fault, or the refusal that the answers settle
abbrev pub RefusedInOrByPrint : {W H X : Type 0} → {ghosts : Ghosts W} → Sight W H ghosts
    → (Look → Option PlanError) → Result X PlanError → Type 0
RefusedInOrByPrint sight refusal result =
    IfErr result (λ e. (e ≡ NoMemory) ⊎ (IsPrintFault e ⊎ Settles sight.answers.now refusal (Some e)))

-- questions, each of them one that is asked under verdicts that agree with the answers, and then a part of which
-- something holds
pub record AsksThen (steady : Bool) (world : Question → Outcome) (dir : List ℕ)
    (questions : Look → Question → Type 0) (before after : List Event) (old new : List Answer)
    (P : List Event → Type 0) : Type 0 where
  pub mid : List Event
  pub rest : List Event
  pub asks : Asks steady world dir before mid old new
  pub own : Holds new (λ look. AnswersAmong (questions look) (since before mid))
  pub extends : after ≡ mid ++ rest
  pub holds : P rest

-- why warnings ended early: a fault of the host, which is the last event, or want of memory. A refusal comes before
-- them.
abbrev pub EndsWarning : List Event → PlanError → Type 0
EndsWarning part (Host call why) = IsNotice call × (stops part ≡ Fault call why ∷ [])
EndsWarning part NoMemory = stops part ≡ []
EndsWarning part e = part ≡ []

-- the host was given one thing by this call, or what ended the call refused it
abbrev pub Gives : {X : Type 0} → HostCall → Event → List Event → Result X PlanError → Type 0
Gives given event part (Ok x) = part ≡ event ∷ []
Gives given event part (Err (Host call why)) = (call ≡ given) × (part ≡ Fault given why ∷ [])
Gives given event part (Err NoMemory) = part ≡ []
Gives given event part (Err e) = ⊥

-- the refusal is no fault of a host
abbrev pub IsOwn : PlanError → Type 0
IsOwn (Host call why) = ⊥
IsOwn e = Unit {0}

-- the warnings were given to the host: all of them, or the first up to what ended the call
abbrev pub Warned : {X : Type 0} → List Step → List Event → Result X PlanError → Type 0
Warned steps part (Ok x) = IsWhole steps part
Warned steps part (Err e) = IsPartly steps part × EndsWarning part e

-- the warnings of a call are settled; one that was refused and gave none may have none
abbrev pub AreSteps : {X : Type 0} → List Answer → (Look → List Step) → List Step → List Event → Result X PlanError
    → Type 0
AreSteps known warnings steps part (Ok x) = Settles known warnings steps
AreSteps known warnings steps part (Err e) = (part ≡ []) ⊎ Settles known warnings steps

-- a child was started, ended, was left alone or gave its standard error, or turns were made
abbrev pub is_of_children : Event → Bool
is_of_children (Started id role cmd pipes held) = true
is_of_children (Ended id status) = true
is_of_children (Abandoned id) = true
is_of_children (Heard id bytes) = true
is_of_children (Unread id) = true
is_of_children (Turn count) = true
is_of_children _ = false

-- The warnings are what the answers settle, where it is given whether the call is the one that warns of flags for the
-- linker. Meanwhile nothing is asked, no child is started, heard or left alone, and no turn is made. A call that is
-- refused for another cause gives none.
pub record Warns {X : Type 0} (known : List Answer) (warnings : Bool → Look → List Step)
    (result : Result X PlanError) (part : List Event) : Type 0 where
  pub warns_of_link : Bool
  pub steps : List Step
  pub settled : AreSteps known (warnings warns_of_link) steps part result
  pub warned : Warned steps part result
  pub silent : question_events part ≡ []
  pub childless : list_any is_of_children part ≡ false

-- a call asks such questions, and then gives the host its warnings
abbrev pub AsksThenWarns : {W H X : Type 0} → {ghosts : Ghosts W} → Bool → (Question → Outcome) → (H → List Event)
    → (Look → Question → Type 0) → Sight W H ghosts → Sight W H ghosts → (Bool → Look → List Step)
    → Result X PlanError → Type 0
AsksThenWarns steady world log questions old new warnings result =
    AsksThen steady world old.dir.now questions (log old.host.now)
    (log new.host.now) old.answers.now new.answers.now (Warns new.answers.now warnings result)
