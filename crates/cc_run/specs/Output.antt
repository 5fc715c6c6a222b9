-- What a part says of one command that was run in one call of the host.
use Rattle.std.specs.Prelude.{◌≡◌, ◌⊎◌, ◌≤◌, ℕ, Bool, true, false, List, [], ◌∷◌, ◌++◌, length, map, take, ◌&&◌, ◌||◌, Option, None, Result, Ok, Err}
use Rattle.std.specs.Option.{option_copied}
use Rattle.cc_text.specs.Words.{when}
use Rattle.cc_host.specs.Command.{CommandSeen}
use Rattle.cc_host.specs.Status.{is_success}
use Rattle.cc_host.specs.declared.event.Event.{Event}
use Rattle.cc_host.specs.declared.event.Event.TheVariants.{Ran, Missing, Fault}
use Rattle.cc_host.specs.declared.event.HostCall.TheVariants.{Output}
use Rattle.cc_host.specs.declared.event.LineKind.TheVariants.{Warning}
use Rattle.cc_host.specs.declared.event.OutputKind.{OutputKind}
use Rattle.cc_host.specs.declared.event.OutputKind.TheVariants.{Discard}
use Rattle.cc_host.specs.declared.event.Status.{Status}
use Rattle.cc_host.specs.declared.event.Why.{Why}
use Rattle.cc_run.specs.Lines.{warnings}
use Rattle.cc_run.specs.Messages.{warned_of, failed_told}
use Rattle.cc_run.specs.Outcome.{IsNotice}
use Rattle.cc_run.specs.Prints.{prints}
use Rattle.cc_run.specs.Texts.{announced, cargo_line, debug_line, ended_text}
use Rattle.cc_run.specs.declared.error.RunError.{RunError}
use Rattle.cc_run.specs.declared.error.RunError.TheVariants.{ToolNotFound, Failed, StartFault, HostFault, NoMemory}
use Rattle.cc_run.specs.declared.planned.Planned.{Planned}
use Rattle.cc_run.specs.declared.planned.Shows.{Shows}
use Rattle.cc_run.specs.declared.print.Notice.{Notice}
use Rattle.cc_run.specs.declared.whole.Outputs.{Outputs}

-- the warnings of a standard error, each as a line for Cargo
abbrev pub map_warnings : Option (List ℕ) → List ℕ → List Notice
map_warnings ignored stderr = map (cargo_line Warning) (warnings ignored stderr)

-- what comes behind a command: the warnings of its standard error, as lines and as messages, how it ended, and where
-- that is told too the message of its failure
unfoldable pub behind : Shows → CommandSeen → Bool → Option (List ℕ) → Status → List ℕ → List Notice
behind shows cmd always ignored status stderr =
    when (shows.warnings && (always || is_success status)) (map_warnings ignored stderr)
    ++ when (shows.listens && (always || is_success status)) (map (warned_of cmd) (warnings ignored stderr))
    ++ when shows.debug (debug_line (ended_text status) ∷ [])
    ++ when always (failed_told shows status cmd)

-- a command as it ran, between the line before it and some of those behind it
pub record RanWhole (shows : Shows) (p : Planned) (out : OutputKind) (always : Bool) (ignored : Option (List ℕ))
    (part : List Event) : Type 0 where
  pub status : Status
  pub output : List ℕ
  pub stderr : List ℕ
  pub count : ℕ
  pub few : count ≤ length (behind shows p.cmd always ignored status stderr)
  pub rest : List Event
  pub is : part ≡ prints (announced shows p.cmd)
      ++ Ran p.role p.cmd (record { out = out; hear = shows.warnings || shows.listens }) status output stderr
      ∷ prints (take count (behind shows p.cmd always ignored status stderr)) ++ rest

-- all of the lines behind it were printed
pub record IsRanTo (shows : Shows) (p : Planned) (out : OutputKind) (always : Bool) (ignored : Option (List ℕ))
    (status : Status) (output : List ℕ) (part : List Event) : Type 0 where
  pub stderr : List ℕ
  pub is : part ≡ prints (announced shows p.cmd)
      ++ Ran p.role p.cmd (record { out = out; hear = shows.warnings || shows.listens }) status output stderr
      ∷ prints (behind shows p.cmd always ignored status stderr)

-- what a part says of the answer
abbrev pub IsOutput : Shows → Planned → OutputKind → Bool → Option (List ℕ) → Result (List ℕ) RunError → List Event
    → Type 0
IsOutput shows p out always ignored (Ok output) part = (status : Status) × ((is_success status ≡ true)
    × IsRanTo shows p out always ignored status output part)
IsOutput shows p out always ignored (Err (Failed place status)) part = (place ≡ 0) × (is_success status ≡ false)
    × ((output : List ℕ) × IsRanTo shows p out always ignored status output part)
IsOutput shows p out always ignored (Err (ToolNotFound place)) part = (place ≡ 0)
    × (part ≡ prints (announced shows p.cmd) ++ Missing p.role p.cmd ∷ [])
IsOutput shows p out always ignored (Err (StartFault place)) part = (place ≡ 0) × ((why : Why)
    × (part ≡ prints (announced shows p.cmd) ++ Fault Output why ∷ []))
IsOutput shows p out always ignored (Err (HostFault call why)) part = IsNotice call
    × ((part ≡ Fault call why ∷ []) ⊎ ((w : RanWhole shows p out always ignored part) × (w.rest ≡ Fault call why ∷ [])))
IsOutput shows p out always ignored (Err NoMemory) part = (part ≡ []) ⊎ (part ≡ prints (announced shows p.cmd))
    ⊎ ((w : RanWhole shows p out always ignored part) × (w.rest ≡ []))
IsOutput shows p out always ignored (Err _) part = ⊥

-- the same, where the standard output is not kept
abbrev pub IsSilentRun : Shows → Planned → Result (Unit {0}) RunError → List Event → Type 0
IsSilentRun shows p (Ok _) part = (output : List ℕ) × IsOutput shows p Discard false None (Ok output) part
IsSilentRun shows p (Err e) part = IsOutput shows p Discard false None (Err e) part

-- the lines behind a command, and what a part says of the answer, by what is done with the outputs
abbrev pub behind_by : Shows → CommandSeen → Outputs → Status → List ℕ → List Notice
behind_by shows cmd outputs = behind shows cmd outputs.always (option_copied outputs.ignored)

abbrev pub IsOutputBy : Shows → Planned → Outputs → Result (List ℕ) RunError → List Event → Type 0
IsOutputBy shows p outputs = IsOutput shows p outputs.out outputs.always (option_copied outputs.ignored)
